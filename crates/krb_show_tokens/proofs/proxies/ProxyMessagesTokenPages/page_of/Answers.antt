use Rattle.std.proofs.Common.{◌∙◌, ap, inr, refl}
use Rattle.std.proofs.lemmas.Result.{err_from_is_err_and}
use Rattle.krb_show_tokens.proofs.OneKind.{memory_told}
use Rattle.krb_show_tokens.proofs.OneMessage.{message_told, other_proxied}
use Rattle.krb_show_tokens.specs.Proxied.{proxied_of}
use Rattle.krb_show_tokens.specs.declared.proxies.Proxied.TheVariants as proxied
use Rattle.krb_show_tokens.proofs.proxies.ProxyMessagesTokenPages.page_of.Goals as goal

pub returns-in_err-tag : goal.returns-in_err-tag
returns-in_err-tag c =
    let p = err_from_is_err_and c.from_residual.result c.from_residual.ensures.1 in
    rw (p.1, p.2) (
      λ k. memory_told (inr (inr refl)),
      λ k. memory_told (inr (inr refl)),
      λ k. memory_told (inr (inr refl)),
      λ k. memory_told (inr (inr refl)),
      λ k. memory_told (inr (inr refl)),
      λ k. memory_told (inr (inr refl)),
      λ k. memory_told (inr (inr refl)),
      λ k. memory_told (inr (inr refl)),
    )

pub returns : goal.returns
returns c = (
  λ h. message_told _ _ _ _ proxied.AsReq c.page_of_proxied.ensures (c.proxied_of.ensures ∙ ap proxied_of (c.in_ok-tag.ensures.known 106 h)),
  λ h. message_told _ _ _ _ proxied.AsRep c.page_of_proxied.ensures (c.proxied_of.ensures ∙ ap proxied_of (c.in_ok-tag.ensures.known 107 h)),
  λ h. message_told _ _ _ _ proxied.TgsReq c.page_of_proxied.ensures (c.proxied_of.ensures ∙ ap proxied_of (c.in_ok-tag.ensures.known 108 h)),
  λ h. message_told _ _ _ _ proxied.TgsRep c.page_of_proxied.ensures (c.proxied_of.ensures ∙ ap proxied_of (c.in_ok-tag.ensures.known 109 h)),
  λ h. message_told _ _ _ _ proxied.ApReq c.page_of_proxied.ensures (c.proxied_of.ensures ∙ ap proxied_of (c.in_ok-tag.ensures.known 110 h)),
  λ h. message_told _ _ _ _ proxied.ApRep c.page_of_proxied.ensures (c.proxied_of.ensures ∙ ap proxied_of (c.in_ok-tag.ensures.known 111 h)),
  λ h. message_told _ _ _ _ proxied.KrbError c.page_of_proxied.ensures (c.proxied_of.ensures ∙ ap proxied_of (c.in_ok-tag.ensures.known 126 h)),
  λ h. message_told _ _ _ _ proxied.AsReq c.page_of_proxied.ensures (c.proxied_of.ensures ∙ other_proxied c.in_ok-tag.tag (c.in_ok-tag.ensures.other h)),
)

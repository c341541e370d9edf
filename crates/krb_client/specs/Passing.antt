-- Replies to other requests (RFC 4120, 5.4.1).
use Rattle.std.specs.Prelude.{◌≡◌, ◌⊎◌, true, false}
use Rattle.krb_client.specs.declared.replies.error.ReplyError.{ReplyError}
use Rattle.krb_client.specs.declared.replies.error.ReplyError.TheVariants as replies
use Rattle.krb_client_rules.specs.declared.mismatch.Mismatch.TheVariants as rule
use Rattle.krb_client.specs.declared.terms.Terms.{Terms}

-- the first rule that is broken is another one than that of the nonce
abbrev pub HasNotOtherNonce : ReplyError → Type 0
HasNotOtherNonce (replies.Mismatch rule.Nonce) = ⊥
HasNotOtherNonce other = Unit {0}

-- the transport may deliver replies to other requests, and the nonce is the first rule that is broken
abbrev pub IsPassedOver : Terms → ReplyError → Type 0
IsPassedOver terms error = (terms.datagrams ≡ true) × (error ≡ replies.Mismatch rule.Nonce)

abbrev pub IsNotPassedOver : Terms → ReplyError → Type 0
IsNotPassedOver terms error = (terms.datagrams ≡ false) ⊎ HasNotOtherNonce error

-- Which message a message of IAKERB holds, and what is told of the octets by that.
use Rattle.std.specs.Prelude.{nat_eq, if◌then◌else◌, ℕ, Option, None, Some}
use Rattle.krb_show_tokens.specs.declared.proxies.Proxied.{Proxied}
use Rattle.krb_show_tokens.specs.declared.proxies.Proxied.TheVariants as proxied
use Rattle.krb_show_tokens.specs.Told.{Tells}

-- the message that a tag names (RFC 4120, 5.10); an AS-REQ where there is none, or another tag
abbrev pub proxied_of : Option ℕ → Proxied
proxied_of None = proxied.AsReq
proxied_of (Some tag) =
    if nat_eq tag 107 then proxied.AsRep
    else (if nat_eq tag 108 then proxied.TgsReq
    else (if nat_eq tag 109 then proxied.TgsRep
    else (if nat_eq tag 110 then proxied.ApReq
    else (if nat_eq tag 111 then proxied.ApRep
    else (if nat_eq tag 126 then proxied.KrbError
    else proxied.AsReq)))))

-- which page octets have, or which error, for each message
pub record ByMessage : Type 1 where
  pub as_req : Tells
  pub as_rep : Tells
  pub tgs_req : Tells
  pub tgs_rep : Tells
  pub ap_req : Tells
  pub ap_rep : Tells
  pub krb_error : Tells

-- that of this message
abbrev pub tells_of_message : ByMessage → Proxied → Tells
tells_of_message by proxied.AsReq = by.as_req
tells_of_message by proxied.AsRep = by.as_rep
tells_of_message by proxied.TgsReq = by.tgs_req
tells_of_message by proxied.TgsRep = by.tgs_rep
tells_of_message by proxied.ApReq = by.ap_req
tells_of_message by proxied.ApRep = by.ap_rep
tells_of_message by proxied.KrbError = by.krb_error

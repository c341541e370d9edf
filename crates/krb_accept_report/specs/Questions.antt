-- What is asked about a token.
use Rattle.std.specs.Prelude.{ℕ, ℤ, None, List}
use Rattle.krb_accept.specs.declared.settings.Settings.{Settings}
use Rattle.krb_accept_rules.specs.declared.terms.Arrival.{Arrival}
use Rattle.krb_accept_rules.specs.declared.terms.Terms.{Terms}

-- the octets of the service's keytab; those of the token; the service's clock, in seconds since 1970; its terms; and what it asks of tokens
pub record Question : Type 0 where
  pub keytab : List ℕ
  pub octets : List ℕ
  pub clock : ℤ
  pub terms : Terms
  pub settings : Settings

-- its clock, and no address of the client
abbrev pub arrival_of : Question → Arrival
arrival_of q = record { clock = q.clock; address = None }

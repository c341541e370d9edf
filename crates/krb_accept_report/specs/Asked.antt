-- The terms that are asked about.
use Rattle.std.specs.Prelude.{◌≡◌, ℕ, None, List, Vec}
use Rattle.std.specs.declared.alloc.Global.{Global}
use Rattle.krb_accept_rules.specs.UsualTerms.{AreUsual}
use Rattle.krb_accept_rules.specs.declared.servers.ServerName.{ServerName}
use Rattle.krb_accept_rules.specs.declared.terms.Terms.{Terms}

-- the usual ones with this skew and no replay cache, but for which servers and realms
abbrev pub AreUsualBut : ℕ → Terms → Type 0
AreUsualBut skew terms =
    (servers : Vec ServerName Global) × (realms : Vec (List ℕ) Global) × AreUsual skew None (record terms { servers = servers; realms = realms })

-- and for these servers and realms: any where there are none
pub record AreTermsFor (skew : ℕ) (servers : List ServerName) (realms : List (List ℕ)) (terms : Terms) : Type 0 where
  pub are_usual : AreUsualBut skew terms
  pub are_servers : terms.servers.items ≡ servers
  pub are_realms : terms.realms.items ≡ realms

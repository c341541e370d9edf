-- The usual terms of a service (RFC 4120, 3.2.3; RFC 3962 and RFC 8009 for the encryption types; RFC 4120, 5.2.6.4, and MS-PAC, 2.1, for authorization data).
use Rattle.std.specs.Prelude.{◌≡◌, ℕ, ℤ, false, Option, [], ◌∷◌}
use Rattle.krb_accept_rules.specs.declared.terms.Terms.{Terms}

-- AES alone, authorization data of a KDC and a PAC, a path that a KDC has checked, any server, clients with names of any realm, and a cache
-- that is whole since this time
pub record AreUsual (skew : ℕ) (whole_since : Option ℤ) (terms : Terms) : Type 0 where
  pub skew_is : terms.skew ≡ skew
  pub addresses : terms.addresses_required ≡ false
  pub etypes : terms.etypes.items ≡ 17 ∷ 18 ∷ 19 ∷ 20 ∷ []
  pub known_data : terms.known_data.items ≡ 8 ∷ 128 ∷ []
  pub path : terms.unchecked_path ≡ false
  pub servers : terms.servers.items ≡ []
  pub named : terms.anonymous ≡ false
  pub realms : terms.realms.items ≡ []
  pub whole : terms.whole_since ≡ whole_since

-- For which servers clients are let in, and of which realms, by their texts (RFC 1964, 2.1.1), an octet 0 between each and the next: none has one of its own,
-- since the text of a name has a NUL quoted.
use Rattle.std.specs.Prelude.{◌≡◌, ◌==◌, ◌≢◌, ◌⊎◌, ℕ, List, [], ◌∷◌}
use Rattle.std.specs.List.{slice_split}
use Rattle.std.specs.Str.{IsUtf8}
use Rattle.krb_accept_rules.specs.Texts.{IsNoRealm, IsNoServer, IsRealm, IsServer}
use Rattle.krb_accept_rules.specs.declared.servers.ServerName.{ServerName}

-- the texts between the octets 0
abbrev pub texts_of : List ℕ → List (List ℕ)
texts_of octets = slice_split (λ octet. octet == 0) octets

-- each stands for the one at its place, and there are as many
abbrev pub AreEach : {A B : Type 0} → (A → B → Type 0) → List A → List B → Type 0
AreEach is [] [] = Unit {0}
AreEach is [] (y ∷ ys) = ⊥
AreEach is (x ∷ xs) [] = ⊥
AreEach is (x ∷ xs) (y ∷ ys) = is x y × AreEach is xs ys

-- one is so
abbrev pub HasOne : {A : Type 0} → (A → Type 0) → List A → Type 0
HasOne is [] = ⊥
HasOne is (x ∷ xs) = is x ⊎ HasOne is xs

-- no text, or that of no server
abbrev pub IsNotServer : List ℕ → Type 0
IsNotServer text = (IsUtf8 text → ⊥) ⊎ IsNoServer text

-- no text, or no realm
abbrev pub IsNotRealm : List ℕ → Type 0
IsNotRealm text = (IsUtf8 text → ⊥) ⊎ IsNoRealm text

-- none of no octets; else those of the texts
abbrev pub AreServers : List ℕ → List ServerName → Type 0
AreServers octets names = ((octets ≡ []) × (names ≡ [])) ⊎ ((octets ≢ []) × AreEach IsServer (texts_of octets) names)

-- a text is that of no server
abbrev pub AreNoServers : List ℕ → Type 0
AreNoServers octets = (octets ≢ []) × HasOne IsNotServer (texts_of octets)

-- none of no octets; else those of the texts
abbrev pub AreRealms : List ℕ → List (List ℕ) → Type 0
AreRealms octets realms = ((octets ≡ []) × (realms ≡ [])) ⊎ ((octets ≢ []) × AreEach IsRealm (texts_of octets) realms)

-- a text is no realm
abbrev pub AreNoRealms : List ℕ → Type 0
AreNoRealms octets = (octets ≢ []) × HasOne IsNotRealm (texts_of octets)

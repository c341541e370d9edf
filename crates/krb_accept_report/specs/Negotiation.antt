-- The token of Kerberos in the first message of SPNEGO (RFC 4178, 4.2.1), as HTTP carries it (RFC 4559, 4).
use Rattle.std.specs.Prelude.{◌≡◌, ◌⊎◌, ℕ, Option, None, Some, List, [], ◌∷◌}
use Rattle.krb_gss_tokens.specs.declared.spnego.GssApiNegInit.{GssApiNegInit}

-- the arcs of SPNEGO, 1.3.6.1.5.5.2 (RFC 4178, 3.1)
abbrev pub spnego_arcs : List ℕ
spnego_arcs = 1 ∷ 3 ∷ 6 ∷ 1 ∷ 5 ∷ 5 ∷ 2 ∷ []

-- 1.2.840.113554.1.2.2 (RFC 4121, 4.1), and 1.2.840.48018.1.2.2, which Windows has beside (MS-SPNG, 1.9)
abbrev pub IsKerberos : List ℕ → Type 0
IsKerberos arcs =
    (arcs ≡ 1 ∷ 2 ∷ 840 ∷ 113554 ∷ 1 ∷ 2 ∷ 2 ∷ []) ⊎ (arcs ≡ 1 ∷ 2 ∷ 840 ∷ 48018 ∷ 1 ∷ 2 ∷ 2 ∷ [])

-- the first mechanism, whose token mechToken is, is Kerberos
abbrev pub BeginsWithKerberos : Option (List (List ℕ)) → Type 0
BeginsWithKerberos None = ⊥
BeginsWithKerberos (Some []) = ⊥
BeginsWithKerberos (Some (first ∷ others)) = IsKerberos first

-- the message is in the frame of SPNEGO, and offers Kerberos first
abbrev pub OffersKerberos : GssApiNegInit → Type 0
OffersKerberos v = (v.oid ≡ spnego_arcs) × BeginsWithKerberos v.neg_token_init.mech_types.0

-- Which first message octets are the one encoding of.
module _ (is_message : GssApiNegInit → Type 0) where
  -- they are one that offers Kerberos first, and this is its mechToken
  abbrev pub IsMechToken : List ℕ → Type 0
  IsMechToken token = (v : GssApiNegInit) × is_message v × OffersKerberos v × (v.neg_token_init.mech_token.0 ≡ Some token)

  -- the token that octets hold: a mechToken, or where there is none the octets themselves
  abbrev pub IsTokenIn : List ℕ → List ℕ → Type 0
  IsTokenIn octets token = IsMechToken token ⊎ (((other : List ℕ) → IsMechToken other → ⊥) × (token ≡ octets))

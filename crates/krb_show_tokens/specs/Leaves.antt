-- The tokens of leaves that only tokens of the GSS-API have.
use Rattle.std.specs.Prelude.{◌≡◌, ℕ, zero, suc, ◌/◌, ◌%◌, ◌^◌, ◌<◌, nat_eq, if◌then◌else◌, ◌&&◌, ◌⊎◌, Bool, true, false, pos}
use Rattle.std.specs.Prelude.{List, [], ◌∷◌, ◌++◌, codes, slice_index}
use Rattle.krb_der_x509.specs.ObjectIdentifier.{dotted}
use Rattle.krb_registry.specs.declared.kind.Kind.TheVariants.{TokenFlag}
use Rattle.krb_show.specs.declared.token.Form.TheVariants as form
use Rattle.krb_show.specs.Leaves.{IsFlagName, hex, identifier_of as dotted_of, number_of, octets_of}
use Rattle.krb_show.specs.Tokens.{Label, Token, adds, noted}

-- ---- object identifiers

-- the dotted numbers, with the mechanism's name
abbrev pub identifier_of : Label → List ℕ → List Token → List Token → Type 0
identifier_of label arcs = dotted_of label (dotted arcs)

-- ---- token ids

-- these are the two octets
abbrev pub is_id : ℕ → ℕ → List ℕ → Bool
is_id first second id = nat_eq (slice_index id 0) first && nat_eq (slice_index id 1) second

-- The names of token ids, each behind a blank: RFC 4121, 4.1 and 4.2.6; 04 00 and 04 01: draft-swift-win2k-krb-user2user-03; 05 00 and
-- 06 00: draft-zhu-pku2u-09, 6; 05 01: draft-ietf-kitten-iakerb-03, 3.
abbrev pub token_id_note : List ℕ → List ℕ
token_id_note id =
    if is_id 1 0 id then codes " KRB_AP_REQ"
    else (if is_id 2 0 id then codes " KRB_AP_REP"
    else (if is_id 3 0 id then codes " KRB_ERROR"
    else (if is_id 4 0 id then codes " KRB_TGT_REQ"
    else (if is_id 4 1 id then codes " KRB_TGT_REP"
    else (if is_id 4 4 id then codes " MIC"
    else (if is_id 5 0 id then codes " KRB_AS_REQ"
    else (if is_id 5 1 id then codes " IAKERB_PROXY"
    else (if is_id 5 4 id then codes " Wrap"
    else (if is_id 6 0 id then codes " KRB_AS_REP"
    else [])))))))))

-- the digits of the two octets, with the name
abbrev pub token_id_of : Label → List ℕ → List Token → List Token → Type 0
token_id_of label id = adds (noted form.Identifier label (hex id) (token_id_note id))

-- ---- flags of an octet

-- whether a bit is set, the least significant is 0 (RFC 4121, 4.2.2)
abbrev pub has_bit : ℕ → ℕ → Bool
has_bit octet bit = nat_eq (octet / 2 ^ bit % 2) 1

-- a flag adds a blank and its name, or its number where it has none, where it is set
abbrev pub adds_token_flag : ℕ → ℕ → List ℕ → List ℕ → Type 0
adds_token_flag octet bit before note =
    ((has_bit octet bit ≡ true) × (name : List ℕ) × IsFlagName TokenFlag bit name × (note ≡ before ++ 32 ∷ name))
    ⊎ ((has_bit octet bit ≡ false) × (note ≡ before))

-- the names of the flags that are set among so many
unfoldable pub AreTokenFlags : ℕ → ℕ → List ℕ → Type 0
AreTokenFlags octet zero note = note ≡ []
AreTokenFlags octet (suc bit) note = (before : List ℕ) × AreTokenFlags octet bit before × adds_token_flag octet bit before note

-- the octet in hexadecimal, with the names of the flags that are set among its eight
abbrev pub token_flags_of : Label → ℕ → List Token → List Token → Type 0
token_flags_of label octet old new = (note : List ℕ) × AreTokenFlags octet 8 note
    × (new ≡ old ++ noted form.Flags label (codes "0x" ++ hex (octet ∷ [])) note ∷ [])

-- ---- numbers

-- an ENUMERATED of one octet below 128 (X.690, 8.4) is shown as its number, and another element as its octets
abbrev pub element_of : Label → List ℕ → List Token → List Token → Type 0
element_of label octets old new =
    ((number : ℕ) × (number < 128) × (octets ≡ 10 ∷ 1 ∷ number ∷ []) × number_of label (pos number) old new)
    ⊎ (((number : ℕ) → number < 128 → octets ≡ 10 ∷ 1 ∷ number ∷ [] → ⊥) × octets_of label octets old new)

-- Messages of SPNEGO (RFC 4178, 4.2), of the contents of their fields.
use Rattle.std.specs.Prelude.{ℕ, List, ◌++◌, Option, Some, None}
use Rattle.krb_der_core.specs.Encoding.{optional}
use Rattle.krb_der_core.specs.Tlv.{tlv}
use Rattle.krb_gss_tokens.specs.Token.{in_token}

-- the content of a field that may be absent
abbrev pub contents : {A : Type 0} → (A → List ℕ) → Option A → Option (List ℕ)
contents content None = None
contents content (Some x) = Some (content x)

-- the field [n] of this type and content, which may be absent: `tag` is 160 and n, `inner` the type's tag
abbrev pub field : ℕ → ℕ → Option (List ℕ) → List ℕ
field tag inner content = optional (λ c. tlv tag (tlv inner c)) content

-- the token that begins a negotiation, of these contents
abbrev pub init_octets : List ℕ → Option (List ℕ) → Option (List ℕ) → Option (List ℕ) → Option (List ℕ) → List ℕ
init_octets mechanism mechanisms flags token mic =
    in_token (tlv 48 (tlv 6 mechanism ++ tlv 160 (tlv 48 (field 160 48 mechanisms ++ field 161 3 flags ++ field 162 4 token ++ field 163 4 mic))))

-- a later message, whose negState is this element
abbrev pub answer_octets : Option (List ℕ) → Option (List ℕ) → Option (List ℕ) → Option (List ℕ) → List ℕ
answer_octets state mechanism token mic =
    tlv 161 (tlv 48 (optional (λ c. tlv 160 c) state ++ field 161 6 mechanism ++ field 162 4 token ++ field 163 4 mic))

-- Elements at the start of octets.
use Rattle.std.proofs.Common.{◌≡◌, ℕ, ◌<◌, ◌^◌, List, ◌++◌, length, drop, get_or, refl, sym, ap, ◌∙◌, arith}
use Rattle.std.proofs.lemmas.List.{length-append}
use Rattle.krb_der_core.specs.declared.error.Asn1DerError.{Asn1DerError}
use Rattle.krb_der_core.specs.declared.error.Asn1DerError.TheVariants as errors
use Rattle.krb_der_core.specs.Tlv.{tlv}
use Rattle.krb_der_core.specs.TlvLaws.{tlv_apart}
use Rattle.krb_der_core.specs.Reading.{Elements, RejectsPrefix, TakesPrefix}
use Rattle.krb_c_calls.proofs.FramedTokens.{prefix_memory}

-- the tag is the first octet
pub first_is : (octets : List ℕ) (tag : ℕ) (content rest : List ℕ) → octets ≡ tlv tag content ++ rest → get_or octets 0 0 ≡ tag
unfolding tlv
first_is octets tag content rest e = ap (λ (l : List ℕ). get_or l 0 0) e

-- an element that was read is the one that is there
pub size_read : (octets content : List ℕ) (first taken : ℕ) → TakesPrefix (tlv first content) taken octets → (tag : ℕ) (c rest : List ℕ) → octets ≡ tlv tag c ++ rest → taken ≡ length (tlv tag c)
size_read octets content first taken t tag c rest e =
    let s = tlv_apart first tag content c (drop taken octets) rest (sym t.prefix ∙ e) in
    t.count ∙ ap length (ap (λ (x : ℕ). tlv x content) s.tag ∙ ap (tlv tag) s.content)

-- an element that is there is read
pub none_refused : (octets : List ℕ) (e : Asn1DerError) → length octets < 2 ^ 64 → (e ≡ errors.OutOfMemory → ⊥) → RejectsPrefix (Elements (get_or octets 0 0)) octets e
    → (tag : ℕ) (c rest : List ℕ) → octets ≡ tlv tag c ++ rest → ⊥
none_refused octets e lt heapless r tag c rest q =
    let tagged : tlv (get_or octets 0 0) c ≡ tlv tag c = ap (λ (x : ℕ). tlv x c) (first_is octets tag c rest q) in
    let same : octets ≡ tlv (get_or octets 0 0) c ++ rest = q ∙ ap (λ (l : List ℕ). l ++ rest) (sym tagged) in
    let fits : length (tlv (get_or octets 0 0) c) < 2 ^ 64 = omega (arith, lt, ap length same, length-append (tlv (get_or octets 0 0) c) rest) in
    heapless (prefix_memory (Elements (get_or octets 0 0)) octets e r (tlv (get_or octets 0 0) c) rest (c, fits, refl) same)

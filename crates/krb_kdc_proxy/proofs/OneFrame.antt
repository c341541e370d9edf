-- A frame is of one first message and of one second.
use Rattle.std.proofs.Common.{◌≡◌, ℕ, ◌+◌, ◌<◌, ◌^◌, List, ◌++◌, length, refl, sym, ap, ◌∙◌, inl, inr, arith}
use Rattle.std.proofs.lemmas.List.{length-append}
use Rattle.std.proofs.lemmas.Nat.{from_be_bytes-to_be_bytes_2}
use Rattle.std.specs.Int.{from_be_bytes, to_be_bytes, w16}
use Rattle.krb_der_core.specs.TlvLaws.{same_prefixes}
use Rattle.krb_kdc_proxy.specs.declared.frame.Direction.{Direction}
use Rattle.krb_kdc_proxy.specs.declared.frame.Direction.TheVariants as direction
use Rattle.krb_kdc_proxy.specs.Frames.{IsFrame, IsVersion, frame}

version_length : (d : Direction) (version : List ℕ) → IsVersion d version → length version ≡ 2
version_length direction.Request version (inl e) = ap length e
version_length direction.Request version (inr e) = ap length e
version_length direction.Reply version e = ap length e

first_fits : (d : Direction) (octets first second : List ℕ) → IsFrame d octets first second → length first < 2 ^ 16
first_fits d octets first second f =
    let whole = simp length-append at (ap length f.whole) in
    omega (arith, whole, f.short)

same_frames : (v w first second other last : List ℕ) → length v ≡ length w → length first < 2 ^ 16 → length other < 2 ^ 16 → frame v first second ≡ frame w other last
    → (first ≡ other) × (second ≡ last)
same_frames v w first second other last long fits too e =
    let a = same_prefixes (to_be_bytes w16 (6 + (length first + length second))) (to_be_bytes w16 (6 + (length other + length last)))
    (v ++ (to_be_bytes w16 (length first) ++ (first ++ second))) (w ++ (to_be_bytes w16 (length other) ++ (other ++ last))) refl e in
    let b = same_prefixes v w (to_be_bytes w16 (length first) ++ (first ++ second)) (to_be_bytes w16 (length other) ++ (other ++ last)) long a.1 in
    let c = same_prefixes (to_be_bytes w16 (length first)) (to_be_bytes w16 (length other)) (first ++ second) (other ++ last) refl b.1 in
    let same = sym (from_be_bytes-to_be_bytes_2 (length first) fits) ∙ ap (from_be_bytes w16) c.0 ∙ from_be_bytes-to_be_bytes_2 (length other) too in
    same_prefixes first other second last same c.1

pub one_frame : (d : Direction) (octets first second other last : List ℕ) → IsFrame d octets first second → IsFrame d octets other last
    → (first ≡ other) × (second ≡ last)
one_frame d octets first second other last f g =
    same_frames f.version g.version first second other last (version_length d f.version f.is_version ∙ sym (version_length d g.version g.is_version))
    (first_fits d octets first second f) (first_fits d octets other last g) (sym f.whole ∙ g.whole)

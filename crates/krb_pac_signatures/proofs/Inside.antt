-- The buffers of a PAC are within its octets.
use Rattle.std.proofs.Common.{◌≡◌, ℕ, suc, ◌+◌, ◌*◌, Bool, true, false, cond, nat_eq, List, [], ◌∷◌, length, drop, Option, Some, ap, subst, arith}
use Rattle.std.proofs.lemmas.List.{length-take}
use Rattle.std.specs.List.{find}
use Rattle.std.specs.Option.{option_map}
use Rattle.krb_pac.specs.Kind.{code}
use Rattle.krb_pac.specs.Numbered.{AreNumbered, NumberedBuffer, NumberedBufferAt, NumberedPacIs}
use Rattle.krb_pac.specs.declared.kind.PacBufferType.{PacBufferType}
use Rattle.krb_pac_signatures.specs.Signatures.{Placed, placed_in, IsInside}

abbrev as_placed : NumberedBuffer → Placed
as_placed q = record { at = q.info.offset; octets = q.octets }

buffer_inside : (b : List ℕ) (at : ℕ) (q : NumberedBuffer) → NumberedBufferAt b at q → IsInside b (as_placed q)
buffer_inside b at q x =
    let long = ap length x.named in
    let inside = x.inside in
    omega (arith, long, length-take q.info.cb_buffer_size (drop q.info.offset b))

by_test : (b : List ℕ) (q : NumberedBuffer) (rest : Option NumberedBuffer) (p : Placed) (t : Bool) → IsInside b (as_placed q) → (option_map as_placed rest ≡ Some p → IsInside b p)
    → option_map as_placed (cond t (Some q) rest) ≡ Some p → IsInside b p
by_test b q rest p true h k e = let same : as_placed q ≡ p = cc in subst (IsInside b) same h
by_test b q rest p false h k e = k e

first_inside : (b : List ℕ) (i : ℕ) (kind : PacBufferType) (ps : List NumberedBuffer) (p : Placed) → AreNumbered b i ps → placed_in kind ps ≡ Some p → IsInside b p
first_inside b i kind [] p x e = absurd cc
first_inside b i kind (q ∷ qs) p x e =
    by_test b q (find (λ (r : NumberedBuffer). nat_eq r.info.ul_type (code kind)) qs) p (nat_eq q.info.ul_type (code kind))
    (buffer_inside b (8 + 16 * i) q x.0) (first_inside b (suc i) kind qs p x.1) e

pub placed_inside : (b : List ℕ) (pac : List NumberedBuffer) (kind : PacBufferType) (p : Placed) → NumberedPacIs b pac → placed_in kind pac ≡ Some p → IsInside b p
placed_inside b pac kind p x e = first_inside b 0 kind pac p x.buffers e

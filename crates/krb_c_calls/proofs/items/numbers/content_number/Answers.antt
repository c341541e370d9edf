use Rattle.std.proofs.Common.{ℤ, w64, refl, sym, subst, inl, inr}
use Rattle.std.proofs.lemmas.Int.{to_z-of_z}
use Rattle.std.specs.Prelude.{FitsSigned}
use Rattle.krb_der_core.specs.Integer.{shortest}
use Rattle.krb_der_core.specs.TlvLaws.{tlv_same}
use Rattle.krb_c_calls.proofs.items.numbers.content_number.Goals as goal

pub returns-in-Some : goal.returns-in-Some
returns-in-Some c =
    let fits = c.in-Some.ensures.0 in
    let same = c.in-Some.ensures.1 in
    let range = subst (λ (z : ℤ). FitsSigned w64 z) (sym same) fits in
    let content = tlv_same 2 2 c.args.content.now (shortest c.in-Ok.value) c.in-Ok.ensures.found in
    rw (to_z-of_z w64 c.in-Some.small range) (inl (c.in-Ok.value, content, inl (refl, fits, same)))

pub returns : goal.returns
returns c =
    let content = tlv_same 2 2 c.args.content.now (shortest c.in-Ok.value) c.in-Ok.ensures.found in
    inl (c.in-Ok.value, content, inr (c.status-in-None.ensures.number, c.in-None.ensures, refl))

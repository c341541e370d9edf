use Rattle.std.proofs.Common.{◌≡◌, ℕ, List, ◌+◌, ◌-◌, ◌≤◌, ◌∷◌, [], ◌++◌, length, take, drop, ap, ◌∙◌, arith}
use Rattle.std.proofs.lemmas.List.{with_items_is}
use Rattle.krb_der_core.proofs.Growth.{filled, written_length}
use Rattle.krb_der_core.proofs.tlv.end_tlv.Goals as goal

pub returns-then-size-lt128-clause-ok : goal.returns-then-size-lt128-clause-ok
returns-then-size-lt128-clause-ok c =
    let out = c.args.out.now.items in
    let start = c.args.start in
    let written = c.copy_from_slice.new.self in
    let end : c.len.result ≡ length out = c.len.ensures ∙ c.args.out.now.ok.0 in
    let inside : start ≤ length c.deref_mut.result.now = omega (arith, c.deref_mut.ensures.len, c.len.ensures, c.requires, end) in
    with_items_is c.args.out.now _ (written_length c.deref_mut.result.now written start _ inside c.copy_from_slice.ensures.len ∙ c.deref_mut.ensures.len)
    ∙ ap (λ (l : List ℕ). take start l ++ (written ++ drop (start + 2 - start) (drop start l))) c.deref_mut.ensures.value
    ∙ filled out written start c.args.tag c.requires (omega (arith, c.if-size-lt128.true, end)) (c.copy_from_slice.ensures.after ∙ ap (λ n. c.args.tag ∷ (n - start - 2) ∷ []) end)

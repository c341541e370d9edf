use Rattle.std.proofs.Common.{◌≡◌, ℕ, List, subst, take, ◌∙◌, rules}
use Rattle.std.proofs.lemmas.Result.{err_from_is_err_and}
use Rattle.krb_gss_per_message.specs.Unwrap.{IsPlaintextOf}
use Rattle.krb_gss_per_message.proofs.Openings.{opening_kept, nothing_held, held_once}
use Rattle.krb_gss_per_message.proofs.unwrapping.sealed_message.Goals as goal

pub returns-in_err-plaintext-clause-only : goal.returns-in_err-plaintext-clause-only
returns-in_err-plaintext-clause-only c =
    let p = err_from_is_err_and c.from_residual.result c.from_residual.ensures.1 in
    λ message is. rw (p.1, p.2) (opening_kept c.args.key.now c.args.octets.now is.0 _ is.1 c.in_err-plaintext.ensures.refused)

pub returns-in_default-clause-refused : goal.returns-in_default-clause-refused
returns-in_default-clause-refused c =
    let items : List ℕ = c.in_ok-plaintext.plaintext.items in
    let none = subst (λ (xs : List ℕ). (message : List ℕ) → ¬ IsPlaintextOf c.args.extra_count c.args.header.now xs message) c.deref.ensures.value c.in_default.ensures in
    ((items, c.in_ok-plaintext.ensures.opened), nothing_held c.args.key.now c.args.extra_count c.args.header.now c.args.octets.now items c.in_ok-plaintext.ensures.only none)

pub returns-in_default-clause-only : goal.returns-in_default-clause-only
returns-in_default-clause-only c =
    let items : List ℕ = c.in_ok-plaintext.plaintext.items in
    let none = subst (λ (xs : List ℕ). (message : List ℕ) → ¬ IsPlaintextOf c.args.extra_count c.args.header.now xs message) c.deref.ensures.value c.in_default.ensures in
    λ message is. absurd (nothing_held c.args.key.now c.args.extra_count c.args.header.now c.args.octets.now items c.in_ok-plaintext.ensures.only none message is)

pub returns-clause-only : goal.returns-clause-only
returns-clause-only c =
    let items : List ℕ = c.in_ok-plaintext.plaintext.items in
    let holds : IsPlaintextOf c.args.extra_count c.args.header.now items (take c.in-Some.size items) =
    subst (λ (xs : List ℕ). IsPlaintextOf c.args.extra_count c.args.header.now xs (take c.in-Some.size xs)) c.deref.ensures.value c.in-Some.ensures.1 in
    let cut : c.truncate.new.self.items ≡ take c.in-Some.size items = search rules in
    λ message is. cut ∙ held_once c.args.key.now c.args.extra_count c.args.header.now c.args.octets.now items (take c.in-Some.size items) message c.in_ok-plaintext.ensures.only holds is

use Rattle.std.proofs.Common.{sym, ◌∙◌}
use Rattle.std.proofs.lemmas.Bool.{false≢true}
use Rattle.krb_crypto_message.proofs.DesParts.{is_weak-second, is_weak-not_first, is_weak-not_repeated}
use Rattle.krb_crypto_message.proofs.des.key_of_seed.is_weak.Goals as goal
use Rattle.krb_crypto_message.proofs.des.key_of_seed.is_weak.Goals.{then-eq, else-eq}

pub returns-then-is_weak_pair : goal.returns-then-is_weak_pair
returns-then-is_weak_pair c =
    elim c.if-eq.branch [
      | then-eq w ↦ c.is_weak_pair-then-is_weak_pair.ensures ∙ is_weak-second c.args.key.now (sym c.eq.ensures ∙ w.if-eq.true) (sym w.is_weak_pair.ensures ∙ sym w.value-is ∙ c.if-is_weak_pair.true)
      | else-eq w ↦ absurd (false≢true (sym w.if-eq.false ∙ sym w.value-is ∙ c.if-is_weak_pair.true))
    ]

pub returns-else-is_weak_pair : goal.returns-else-is_weak_pair
returns-else-is_weak_pair c =
    elim c.if-eq.branch [
      | then-eq w ↦ c.if-is_weak_pair.false ∙ is_weak-not_first c.args.key.now (sym w.is_weak_pair.ensures ∙ sym w.value-is ∙ c.if-is_weak_pair.false)
      | else-eq w ↦ c.if-is_weak_pair.false ∙ is_weak-not_repeated c.args.key.now (sym c.eq.ensures ∙ w.if-eq.false)
    ]

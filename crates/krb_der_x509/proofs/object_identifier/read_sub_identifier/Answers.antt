use Rattle.std.proofs.Common.{length, refl, sym, inl, inr, arith}
use Rattle.std.proofs.lemmas.Bool.{eqb-true}
use Rattle.krb_der_x509.specs.ObjectIdentifierLaws.{sub_first}
use Rattle.krb_der_x509.proofs.ObjectIdentifiers.{sub_step, sub_read, sub_long, sub_cut, sub_empty, too_large, leading_small, empty_small, cut_small}
use Rattle.krb_der_x509.proofs.object_identifier.read_sub_identifier.Goals as goal
use Rattle.krb_der_x509.proofs.object_identifier.read_sub_identifier.Goals.{then-is_empty-via-then-is_empty, then-is_empty-via-else-is_empty+then-octets}

pub returns-then-is_empty-clause-rejected : goal.returns-then-is_empty-clause-rejected
returns-then-is_empty-clause-rejected c =
    elim c.then-is_empty.branch [
      | then-is_empty-via-then-is_empty w ↦ λ n rest lt q. sub_empty c.args.octets.now n rest (eqb-true (length c.args.octets.now) 0 (sym w.if-is_empty.ensures)) q
      | then-is_empty-via-else-is_empty+then-octets w ↦ λ n rest lt q. sub_first n rest c.args.octets.now q w.if-octets.true
    ]

pub returns-then-n-ge-MOST_BEFORE_A_DIGIT-clause-rejected : goal.returns-then-n-ge-MOST_BEFORE_A_DIGIT-clause-rejected
returns-then-n-ge-MOST_BEFORE_A_DIGIT-clause-rejected c = λ n rest lt q.
    sub_long c.args.octets.now c.loop-taken.taken c.loop-taken.n n rest c.loop-taken.invariant c.if-n-ge-MOST_BEFORE_A_DIGIT.true lt q

pub returns-then-octet-lt128-clause-found : goal.returns-then-octet-lt128-clause-found
returns-then-octet-lt128-clause-found c =
    sub_read c.args.octets.now c.loop-taken.taken c.loop-taken.n _ c.loop-taken.invariant c.loop-taken-test.true c.if-octet-lt128.true refl

pub loop-taken-preserved : goal.loop-taken-preserved
loop-taken-preserved c =
    sub_step c.args.octets.now c.loop-taken.taken c.loop-taken.n _ c.loop-taken.invariant (λ e. c.if-octets.false e) c.loop-taken-test.true (omega (arith, c.if-octet-lt128.false)) (omega (arith, c.type_inv.octets c.loop-taken.taken)) refl

pub returns-clause-rejected : goal.returns-clause-rejected
returns-clause-rejected c = λ n rest lt q.
    sub_cut c.args.octets.now c.loop-taken.taken c.loop-taken.n n rest c.loop-taken.invariant (omega (arith, c.loop-taken-test.false)) q

pub returns-then-is_empty-clause-first_error : goal.returns-then-is_empty-clause-first_error
returns-then-is_empty-clause-first_error c = (
  returns-then-is_empty-clause-rejected c,
  inr (
    refl,
    λ t. elim c.then-is_empty.branch [
      | then-is_empty-via-then-is_empty w ↦ empty_small c.args.octets.now (eqb-true (length c.args.octets.now) 0 (sym w.if-is_empty.ensures)) t
      | then-is_empty-via-else-is_empty+then-octets w ↦ leading_small c.args.octets.now w.if-octets.true t
    ],
  ),
)

pub returns-then-n-ge-MOST_BEFORE_A_DIGIT-clause-first_error : goal.returns-then-n-ge-MOST_BEFORE_A_DIGIT-clause-first_error
returns-then-n-ge-MOST_BEFORE_A_DIGIT-clause-first_error c =
    (returns-then-n-ge-MOST_BEFORE_A_DIGIT-clause-rejected c, inl (refl, too_large c.args.octets.now c.loop-taken.taken c.loop-taken.n c.loop-taken.invariant c.loop-taken-test.true c.if-n-ge-MOST_BEFORE_A_DIGIT.true))

pub returns-clause-first_error : goal.returns-clause-first_error
returns-clause-first_error c =
    (returns-clause-rejected c, inr (refl, cut_small c.args.octets.now c.loop-taken.taken c.loop-taken.n c.loop-taken.invariant (omega (arith, c.loop-taken-test.false)) (omega arith)))

use Rattle.std.proofs.Common.{◌≡◌, ◌-◌, ◌/◌, ◌%◌, ◌<◌, ◌==◌, true, false, inl, inr, arith, ◌∙◌}
use Rattle.std.proofs.lemmas.Bool.Decides.{nat_tests}
use Rattle.std.proofs.lemmas.Bool.{and_right}
use Rattle.krb_crypto_block.specs.Aes.{key_term, sub_word, rot_word, round_constant}
use Rattle.krb_crypto_block.proofs.AesRoundConstants.{round_constants_entry}
use Rattle.krb_crypto_block.proofs.AesUndoing.{IsOctets-sub_word, IsOctets-rot_word, IsOctets-round_constant}
use Rattle.krb_crypto_block.proofs.AesWordKeys.{bytes_of_four, word_of_sum}
use Rattle.krb_crypto_block.proofs.aes_key_expansion.key_term.Goals as goal
use Rattle.krb_crypto_block.proofs.aes_key_expansion.key_term.Goals.{else-this-eq8-via-then-this-eq8+else-i-eq4, else-this-eq8-via-else-this-eq8}

pub returns-then-i-eq0 : goal.returns-then-i-eq0
unfolding key_term
returns-then-i-eq0 g c = λ t octets e.
    let i = c.args.i in
    let nk = g.row.NK in
    let here : (i % nk == 0) ≡ true = grind (arith, nat_tests) in
    let low : i / nk - 1 < 10 = elim c.requires.size [ inl e ↦ rw e (omega arith) | inr e ↦ rw e (omega arith) ] in
    let bytes = c.to_be_bytes.ensures ∙ bytes_of_four t c.args.before octets e in
    rw (here, round_constants_entry (i / nk - 1) low, rw bytes at c.substituted_column.ensures)
    (word_of_sum (sub_word (rot_word t)) (round_constant nk i) (IsOctets-sub_word (rot_word t) (IsOctets-rot_word t octets)) (IsOctets-round_constant nk i))

pub returns-then-i-eq4 : goal.returns-then-i-eq4
unfolding key_term
returns-then-i-eq4 g c = λ t octets e.
    let i = c.args.i in
    let nk = g.row.NK in
    let not_first : (i % nk == 0) ≡ false = grind (arith, nat_tests) in
    let eight : (nk == 8) ≡ true = grind (arith, nat_tests) in
    let middle : (i % 8 == 4) ≡ true = grind (arith, nat_tests) in
    let bytes = c.to_be_bytes.ensures ∙ bytes_of_four t c.args.before octets e in
    rw (not_first, eight, middle) (rw bytes at c.substituted_column-then-i-eq4.ensures)

pub returns-else-this-eq8 : goal.returns-else-this-eq8
unfolding key_term
returns-else-this-eq8 g c = λ t octets e.
    let i = c.args.i in
    let nk = g.row.NK in
    let not_first : (i % nk == 0) ≡ false = grind (arith, nat_tests) in
    elim c.else-this-eq8.branch [
      | else-this-eq8-via-then-this-eq8+else-i-eq4 w ↦
          let middle : (i % 8 == 4) ≡ false = grind (arith, nat_tests) in
          rw (not_first, and_right (nk == 8) (i % 8 == 4) middle) e
      | else-this-eq8-via-else-this-eq8 w ↦
          let short : (nk == 8) ≡ false = grind (arith, nat_tests) in
          rw (not_first, short) e
    ]

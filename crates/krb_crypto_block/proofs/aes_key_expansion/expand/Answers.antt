use Rattle.std.proofs.Common.{◌≡◌, ◌∙◌, arith, rules, inl, inr}
use Rattle.std.proofs.lemmas.Bool.{cases_lt}
use Rattle.std.proofs.lemmas.List.{get_or-set_same, get_or-set_other}
use Rattle.krb_crypto_block.proofs.AesWords.{word_from_bytes}
use Rattle.krb_crypto_block.proofs.AesWordKeys.{own_words, next_words, round_key_in_place}
use Rattle.krb_crypto_block.proofs.aes_key_expansion.expand.Goals as goal

pub copy-preserved : goal.copy-preserved
copy-preserved g c = (
  search rules,
  λ k lt. elim (cases_lt k c.copy.i) [
    | inl a ↦ get_or-set_other c.copy.w c.copy.i k c.from_be_bytes.result 0 (omega arith) ∙ c.copy.invariant.1 k a
    | inr b ↦
        let e : c.copy.i ≡ k = omega arith in
        rw (← e) (get_or-set_same c.copy.w c.copy.i c.from_be_bytes.result 0 (omega arith) ∙ c.from_be_bytes.ensures ∙ word_from_bytes _ _ _ _)
  ],
)

pub expand-init : goal.expand-init
expand-init g c = (
  c.copy.invariant.0,
  own_words g.row.NK c.args.key.now c.requires.size c.requires.whole c.are_octets.ensures c.copy.w (λ k h. c.copy.invariant.1 k (omega arith)),
)

pub expand-preserved : goal.expand-preserved
expand-preserved g c = (
  search rules,
  next_words g.row.NK c.args.key.now c.requires.size c.requires.whole c.are_octets.ensures c.expand.w c.expand.i c.key_term.result
      (omega arith) (omega arith) (omega arith) c.expand.invariant.1 c.key_term.ensures,
)

pub returns : goal.returns
returns g c = λ n h. round_key_in_place _ c.expand.w c.expand.i n c.expand.invariant.1 (omega arith)

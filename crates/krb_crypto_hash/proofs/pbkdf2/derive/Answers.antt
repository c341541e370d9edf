use Rattle.std.proofs.Common.{◌≡◌, ℕ, List, ◌+◌, ◌-◌, ◌*◌, ◌≤◌, ◌<◌, ◌⊎◌, ◌++◌, length, take, drop, refl, ap, ◌∙◌, inl, inr, arith, rules}
use Rattle.std.proofs.lemmas.List.{drop-drop}
use Rattle.krb_crypto_hash.specs.Hmac.{hmac_over}
use Rattle.krb_crypto_hash.specs.Pbkdf2.{count_bits}
use Rattle.krb_crypto_hash.proofs.Pbkdf2Steps.{begins, ends, is_least, derived_more}
use Rattle.krb_crypto_hash.proofs.pbkdf2.derive.Goals as goal

pub loop-i-preserved : goal.loop-i-preserved
loop-i-preserved g c = λ k b lt kt.
    let size : ℕ = g.row.SIZE in
    let out : List ℕ = c.loop-i.out in
    let block : List ℕ = c.derived_block-block.result in
    let start : ℕ = size * c.loop-i.i in
    let end : ℕ = start + c.min.result in
    let here = c.derived_block-block.ensures c.args.password.now c.keyed-inner.ensures in
    let sized : length block ≡ size = search rules in
    let first : start < length out = begins size c.div_ceil-count.result c.loop-i.i (length out) c.requires.sizes.0 (rw (c.loop-i.auto.out) c.div_ceil-count.ensures) c.loop-i-test.true in
    let low : start ≤ end = omega arith in
    let high : end ≤ length out = omega (arith, first) in
    let wide : end ≤ start + size = omega arith in
    let last : (end ≡ length out) ⊎ (end ≡ start + size) = elim (is_least c.min.result size (length out - start) (search rules)) [ inl full ↦ inr (omega arith) | inr rest ↦ inl (omega (arith, first)) ] in
    let at : start + (end - start) ≡ end = omega (arith, low) in
    let after : c.copy_from_slice.new.self ≡ take (end - start) block = c.copy_from_slice.ensures.after in
    let trailing : drop (end - start) (drop start out) ≡ drop end out = drop-drop (end - start) start out ∙ ap (λ (n : ℕ). drop n out) at in
    let written = ap (λ (mid : List ℕ). take start out ++ (mid ++ drop (end - start) (drop start out))) after
    ∙ ap (λ (rest : List ℕ). take start out ++ (take (end - start) block ++ rest)) trailing in
    derived_more (λ j. count_bits (hmac_over g.H.HashFunction.hash g.row.BLOCK) c.args.password.now c.args.salt.now j c.args.rounds) size out block c.loop-i.i _ start end refl c.loop-i.invariant here (omega arith) sized low high wide _ written last k b lt kt

pub returns : goal.returns
returns g c = λ k b lt.
    let done : length c.loop-i.out ≤ g.row.SIZE * c.div_ceil-count.result = ends g.row.SIZE c.div_ceil-count.result (length c.loop-i.out) c.requires.sizes.0 (rw (c.loop-i.auto.out) c.div_ceil-count.ensures) in
    let last : c.loop-i.i ≡ c.div_ceil-count.result = omega arith in
    let inside : k < g.row.SIZE * c.loop-i.i = rw last (omega arith) in
    c.loop-i.invariant k b lt inside

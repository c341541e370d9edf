use Rattle.std.proofs.Common.{◌≡◌, ℕ, List, ◌-◌, ◌+◌, ◌++◌, ap, ◌∙◌, arith, rules}
use Rattle.krb_crypto_hash.specs.Hmac.{hmac_over, IsReady}
use Rattle.krb_crypto_hash.specs.Pbkdf2.{chain}
use Rattle.krb_crypto_hash.proofs.Pbkdf2Steps.{chain-first, chain_next, count-first, count_next, xored_at}
use Rattle.krb_crypto_hash.proofs.pbkdf2.derived_block.Given.{Over}
use Rattle.krb_crypto_hash.proofs.pbkdf2.derived_block.Goals as goal

abbrev prf : Over → List ℕ → List ℕ → List ℕ
prf g = hmac_over g.H.HashFunction.hash g.row.BLOCK

first_is : (g : Over) (c : goal.After-mac-last g) (password : List ℕ) → IsReady (g.H.HashFunction.holds c.args.inner.now) (g.H.HashFunction.holds c.args.outer.now) g.H.HashFunction.hash g.row.BLOCK password → c.mac-last.result ≡ chain (prf g) password c.args.salt.now c.args.index 0
first_is g c password ready =
    chain-first (prf g) password c.args.salt.now c.mac-last.result c.args.index (c.mac-last.ensures password ready ∙ ap (λ (k : List ℕ). prf g password (c.args.salt.now ++ k)) c.to_be_bytes.ensures)

pub loop-r-init : goal.loop-r-init
loop-r-init g c = record {
  sized = search rules;
  last = first_is g c;
  odd = λ password ready. count-first (prf g) password c.args.salt.now c.mac-last.result c.args.index (first_is g c password ready);
}

next_is : (g : Over) (c : goal.After-xored_with-sum g) (password : List ℕ) → IsReady (g.H.HashFunction.holds c.args.inner.now) (g.H.HashFunction.holds c.args.outer.now) g.H.HashFunction.hash g.row.BLOCK password → c.mac-last-in-loop-r.result ≡ chain (prf g) password c.args.salt.now c.args.index c.loop-r.r
next_is g c password ready =
    chain_next (prf g) password c.args.salt.now c.loop-r.last c.mac-last-in-loop-r.result c.args.index c.loop-r.r (c.loop-r.invariant.last password ready) (omega arith) (c.mac-last-in-loop-r.ensures password ready)

pub loop-r-preserved : goal.loop-r-preserved
loop-r-preserved g c =
    let same : c.loop-r.r + 1 - 1 ≡ c.loop-r.r = omega arith in
    record {
      sized = search rules;
      last = λ password ready. rw same (next_is g c password ready);
      odd = λ password ready. count_next (prf g) password c.args.salt.now c.loop-r.sum c.xored_with-sum.result c.mac-last-in-loop-r.result c.args.index c.loop-r.r (c.loop-r.invariant.odd password ready) (next_is g c password ready) (xored_at g.row.SIZE c.xored_with-sum.result c.loop-r.sum c.mac-last-in-loop-r.result c.loop-r.invariant.sized (search rules) c.xored_with-sum.ensures);
    }

pub returns : goal.returns
returns g c = λ password ready.
    let done : c.loop-r.r ≡ c.args.rounds = omega arith in
    let odd = c.loop-r.invariant.odd password ready in
    rw done at odd

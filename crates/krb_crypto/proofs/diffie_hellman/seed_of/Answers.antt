use Rattle.std.proofs.Common.{◌≡◌, ◌≤◌, ◌+◌, ◌-◌, ◌++◌, ℕ, List, length, min, take, sym, ap, ◌∙◌, arith, rules}
use Rattle.std.proofs.lemmas.Grind.{div_ceil_times}
use Rattle.std.proofs.lemmas.List.{length-append, length-take, length-take-le}
use Rattle.krb_crypto.specs.Agreement.{digests}
use Rattle.krb_crypto.proofs.Digests.{no_digests, length_none, next_digest, same_prefix, prefix_next}
use Rattle.krb_crypto.proofs.diffie_hellman.seed_of.Goals as goal

pub loop-i-init : goal.loop-i-init
loop-i-init c =
    let x : List ℕ = c.args.secret.now ++ c.args.client_nonce.now ++ c.args.server_nonce.now in
    record {
      prefix = c.in_ok-seed.ensures.items ∙ no_digests x c.args.size;
      long = length_none x;
    }

pub overflow_sub-size : goal.overflow_sub-size
overflow_sub-size c =
    let x : List ℕ = c.args.secret.now ++ c.args.client_nonce.now ++ c.args.server_nonce.now in
    let e = ap length c.loop-i.invariant.prefix in
    let cut = length-take c.args.size (digests x c.loop-i.i) in
    omega (arith, e, cut, c.loop-i.seed.ok)

pub loop-i-preserved : goal.loop-i-preserved
loop-i-preserved c =
    let x : List ℕ = c.args.secret.now ++ c.args.client_nonce.now ++ c.args.server_nonce.now in
    let n : ℕ = c.loop-i.i in
    let sized : length c.digest_of-digest.result ≡ 20 = search rules in
    let kept : c.min-kept.result ≡ min 20 (c.args.size - length c.loop-i.seed.items) = search rules in
    let next = prefix_next c.args.size (digests x n) c.digest_of-digest.result c.loop-i.seed.items c.min-kept.result sized c.loop-i.invariant.prefix kept in
    let more : digests x (n + 1) ≡ digests x n ++ c.digest_of-digest.result = next_digest x n ∙ ap (λ (d : List ℕ). digests x n ++ d) (sym c.digest_of-digest.ensures) in
    record {
      prefix = c.in_ok-extend_from_slice.ensures.items ∙ next ∙ ap (take c.args.size) (sym more);
      long = ap length more ∙ length-append (digests x n) c.digest_of-digest.result ∙ omega (arith, sized, c.loop-i.invariant.long);
    }

pub returns-clause-seed : goal.returns-clause-seed
returns-clause-seed c =
    let x : List ℕ = c.args.secret.now ++ c.args.client_nonce.now ++ c.args.server_nonce.now in
    let i : ℕ = c.loop-i.i in
    let bound = div_ceil_times c.args.size 20 (search rules) in
    let wide : c.args.size ≤ length (digests x i) = omega (arith, bound.0, c.div_ceil-i-end.ensures, c.loop-i-test.false, c.loop-i.invariant.long) in
    let all : 256 ≡ i + (256 - i) = omega (arith, bound.1, c.div_ceil-i-end.ensures, c.requires) in
    c.loop-i.invariant.prefix ∙ sym (ap (λ (n : ℕ). take c.args.size (digests x n)) all ∙ same_prefix x c.args.size i (256 - i) wide)

pub returns-clause-sized : goal.returns-clause-sized
returns-clause-sized c =
    let x : List ℕ = c.args.secret.now ++ c.args.client_nonce.now ++ c.args.server_nonce.now in
    let bound = div_ceil_times c.args.size 20 (search rules) in
    let wide : c.args.size ≤ length (digests x c.loop-i.i) = omega (arith, bound.0, c.div_ceil-i-end.ensures, c.loop-i-test.false, c.loop-i.invariant.long) in
    ap length c.loop-i.invariant.prefix ∙ length-take-le c.args.size (digests x c.loop-i.i) wide

use Rattle.std.proofs.Common.{◌≡◌, ◌*◌, refl, arith, rules}
use Rattle.krb_crypto_aes_tables.proofs.InverseKeys.{unmixed_more, inverse_keys}
use Rattle.krb_crypto_aes_tables.proofs.key_expansion.invert.Goals as goal

pub unmix-init : goal.unmix-init
unmix-init c =
    record {
      long = search rules;
      outside = λ k h. refl;
      within = λ k from h. absurd (omega arith);
    }

pub unmix-preserved : goal.unmix-preserved
unmix-preserved c = unmixed_more c.args.words.now c.unmix.inverted c.unmix.i c.unmixed.result (omega arith) (omega arith) c.unmix.invariant c.unmixed.ensures

pub returns : goal.returns
returns c =
    let done : c.unmix.i ≡ 4 * c.args.rounds = omega arith in
    inverse_keys c.args.words.now c.unmix.inverted c.args.rounds (omega arith) (rw done at c.unmix.invariant)

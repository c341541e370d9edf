use Rattle.std.proofs.Common.{◌≡◌, ◌+◌, ◌-◌, ◌%◌, ◌++◌, List, ℕ, arith, rules, subst}
use Rattle.std.specs.Vec.{vec_len}
use Rattle.krb_der.specs.Encoding.{IsOctets}
use Rattle.krb_crypto_block.specs.Modes.{IsPadding}
use Rattle.test_rows.proofs.ToyOpening.{resized_padding, padding_octets, octets-append}
use Rattle.test_rows.proofs.crypto.toy.padded.Goals as goal

is_padding : (c : goal.In_ok-resize) → IsPadding 4 (c.args.confounder.now ++ c.args.payload.now) c.resize.new.self.items
is_padding c =
    let concatenated : c.extend_from_slice.new.self.items ≡ c.args.confounder.now ++ c.args.payload.now = search rules in
    subst (λ (prefix : List ℕ). IsPadding 4 prefix c.resize.new.self.items) concatenated
    (resized_padding c.extend_from_slice.new.self.items c.resize.new.self.items (c.len-2.result + (4 - c.len.result % 4) % 4) (vec_len c.extend_from_slice.new.self) c.in_ok-resize.ensures.items (search rules) (search rules))

pub returns-clause-fill : goal.returns-clause-fill
returns-clause-fill c = is_padding c

pub returns-clause-octets : goal.returns-clause-octets
returns-clause-octets c =
    let first : IsOctets c.args.confounder.now = λ i. omega (arith, c.type_inv.confounder i) in
    let second : IsOctets c.args.payload.now = λ i. omega (arith, c.type_inv.payload i) in
    padding_octets 4 _ _ (is_padding c) (octets-append _ _ first second)

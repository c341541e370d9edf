use Rattle.std.proofs.Common.{◌≡◌, ◌∙◌, ◌++◌, sym, ap, length, map, take, drop, bit_xor, arith}
use Rattle.std.proofs.lemmas.List.{append-nil}
use Rattle.krb_der.specs.Encoding.{IsOctets}
use Rattle.krb_crypto_message.specs.Sealing.{IsSplit}
use Rattle.test_rows.proofs.ToyOpening.{toy_decrypts, only_octet}
use Rattle.test_rows.proofs.crypto.toy.ToyCipher.decrypt_no_checksum.Goals as goal

pub returns-clause-opened : goal.returns-clause-opened
returns-clause-opened c =
    let octet = c.in_ok-octet.octet in
    let key_is = c.in_ok-octet.ensures in
    let key_octets : IsOctets c.args.key.now = λ i. omega (arith, c.type_inv.key i) in
    let data_octets : IsOctets c.args.cipher_data.now = λ i. omega (arith, c.type_inv.cipher_data i) in
    let prefix : c.in_ok-xored-2.field-0.items ≡ map (λ x. bit_xor x octet) (take 4 c.args.cipher_data.now) = c.in_ok-xored-2.ensures ∙ ap (map (λ x. bit_xor x octet)) c.split_at.ensures.front in
    let back : c.in_ok-xored.field-0.items ≡ map (λ x. bit_xor x octet) (drop 4 c.args.cipher_data.now) = c.in_ok-xored.ensures ∙ ap (map (λ x. bit_xor x octet)) c.split_at.ensures.back in
    let decrypts = toy_decrypts octet c.args.key.now c.args.cipher_data.now (only_octet octet c.args.key.now key_is key_octets) data_octets key_is c.in_ok-check_blocks.ensures.0 c.in_ok-check_blocks.ensures.1 in
    let split : IsSplit 0 c.args.cipher_data.now c.args.cipher_data.now c.new.result.items = record {
      concatenated = sym (append-nil c.args.cipher_data.now) ∙ ap (λ rest. c.args.cipher_data.now ++ rest) (sym c.new.ensures.items);
      size_is = ap length c.new.ensures.items;
    } in
    (c.args.cipher_data.now, split, rw (prefix, back) decrypts)

use Rattle.std.proofs.Common.{ℕ, ◌≤◌, drop, length, inr, arith}
use Rattle.std.proofs.lemmas.List.{length-drop}
use Rattle.krb_kdc_proxy.specs.Streams.{MayBe}
use Rattle.krb_kdc_proxy.proofs.Arrivals.{announced, there, too_much}
use Rattle.krb_kdc_proxy.proofs.stream.is_whole.Goals as goal

pub returns-then-size-behind : goal.returns-then-size-behind
returns-then-size-behind c =
    let octets = c.args.octets.now in
    let size = c.from_be_bytes-size.result in
    let count = length-drop 4 octets in (
      size,
      drop 4 octets,
      announced octets size c.if-octets-lt-LENGTH.false (λ (i : ℕ). (c.type_inv.octets i).fits) c.from_be_bytes-size.type_inv c.from_be_bytes-size.ensures,
      too_much c.args.limit size (length (drop 4 octets)) (λ (may : MayBe c.args.limit size) (fits : length (drop 4 octets) ≤ size). grind (arith, may, fits, count, c.if-size-behind.either)),
    )

pub returns-then-behind-size : goal.returns-then-behind-size
returns-then-behind-size c =
    let octets = c.args.octets.now in
    let size = c.from_be_bytes-size.result in
    let count = length-drop 4 octets in
    inr (
      size,
      drop 4 octets,
      announced octets size c.if-octets-lt-LENGTH.false (λ (i : ℕ). (c.type_inv.octets i).fits) c.from_be_bytes-size.type_inv c.from_be_bytes-size.ensures,
      (omega (arith, c.if-size-behind.false), omega (arith, c.if-size-behind.false)),
      omega (arith, count, c.if-behind-size.true),
    )

pub returns-else-behind-size : goal.returns-else-behind-size
returns-else-behind-size c =
    let octets = c.args.octets.now in
    let size = c.from_be_bytes-size.result in
    let count = length-drop 4 octets in
    there octets c.args.limit size
    (announced octets size c.if-octets-lt-LENGTH.false (λ (i : ℕ). (c.type_inv.octets i).fits) c.from_be_bytes-size.type_inv c.from_be_bytes-size.ensures)
    (omega (arith, c.if-size-behind.false), omega (arith, c.if-size-behind.false))
    (omega (arith, count, c.if-size-behind.false, c.if-behind-size.false))

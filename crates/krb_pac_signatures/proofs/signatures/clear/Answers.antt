use Rattle.std.proofs.Common.{◌+◌, length, ℕ, Option, sym, ap, ◌∙◌, arith}
use Rattle.krb_pac_signatures.specs.Signature.{signature_length}
use Rattle.krb_pac_signatures.specs.Signatures.{Placed, zeroed, cleared}
use Rattle.krb_pac_signatures.proofs.signatures.clear.Goals as goal

pub overflow_add-placed-inside : goal.overflow_add-placed-inside
overflow_add-placed-inside c =
    let inside = c.requires c.in-Some.placed c.in-Some.is in
    let at = ap (λ (p : Placed). p.at) c.placed.view_is in
    let long = ap (λ (p : Placed). length p.octets) c.placed.view_is in
    omega (arith, inside, at, long, c.signature-signature.ensures.within)

pub zero-requires : goal.zero-requires
zero-requires c =
    let inside = c.requires c.in-Some.placed c.in-Some.is in
    let at = ap (λ (p : Placed). p.at) c.placed.view_is in
    let long = ap (λ (p : Placed). length p.octets) c.placed.view_is in
    omega (arith, inside, at, long, c.signature-signature.ensures.within)

pub returns-in-Some-clause-cleared : goal.returns-in-Some-clause-cleared
returns-in-Some-clause-cleared c =
    let b = c.args.octets.now in
    c.zero.ensures.zeroed ∙ ap (λ (n : ℕ). zeroed (c.placed.inside.at + 4) n b) c.signature-signature.ensures.len
    ∙ ap (λ (p : Placed). zeroed (p.at + 4) (signature_length p.octets) b) c.placed.view_is ∙ sym (ap (λ (o : Option Placed). cleared o b) c.in-Some.is)

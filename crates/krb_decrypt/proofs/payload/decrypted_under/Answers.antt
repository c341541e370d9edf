use Rattle.std.proofs.Common.{inl, inr}
use Rattle.krb_decrypt.specs.Usages.{integer_of}
use Rattle.krb_decrypt.proofs.Seals.{decrypts_of, none_of}
use Rattle.krb_decrypt.proofs.payload.decrypted_under.Goals as goal

pub returns-else-is_out_of_memory : goal.returns-else-is_out_of_memory
returns-else-is_out_of_memory c =
    elim (c.in-Err.ensures.rejected c.args.key.now.octets (integer_of c.args.usage) c.in-Some.ensures.some) [
      | inl h ↦ absurd (c.if-is_out_of_memory.ensures h)
      | inr h ↦ none_of c.args.key.now (integer_of c.args.usage) c.args.cipher.now c.in-Some.prepared c.in-Some.ensures.none h
    ]

pub returns-in-Ok : goal.returns-in-Ok
returns-in-Ok c =
    decrypts_of c.args.key.now (integer_of c.args.usage) c.args.cipher.now c.in-Ok.decrypted.items c.in-Some.prepared c.in-Some.ensures.none c.in-Some.ensures.some
    (c.in-Ok.ensures.opened c.args.key.now.octets (integer_of c.args.usage) c.in-Some.ensures.some)

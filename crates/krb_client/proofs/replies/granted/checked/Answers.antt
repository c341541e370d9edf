use Rattle.std.proofs.Common.{inl, inr, refl, to_z-of_z}
use Rattle.krb_client.specs.Granted.{form}
use Rattle.krb_client.proofs.Refusals.{no_answer}
use Rattle.krb_client.proofs.replies.granted.checked.Goals as goal

pub returns-in-Err-clause-rejected : goal.returns-in-Err-clause-rejected
returns-in-Err-clause-rejected g c =
    inr (c.in_ok-message.message, c.in_ok-message.ensures.found, inl (c.in-Err.rule, refl, rw c.from.ensures at c.in-Err.ensures.rejected))

pub returns-in-Err-answers-clause-rejected : goal.returns-in-Err-answers-clause-rejected
returns-in-Err-answers-clause-rejected g c =
    let fits = c.ranges.usage in
    let expected = rw c.from.ensures at c.in_default.ensures.found in
    let opened = simp (to_z-of_z, c.cipher.ensures) at c.in_ok-part.ensures.found in
    no_answer (form g.M.DerEncode g.M.Numbered.numbers g.M.KdcReply.content g.P.DerEncode g.P.ReplyPart.content c.args.number c.args.usage c.args.initial)
    c.args.asked.now c.args.clock.now c.args.key.now c.args.octets.now c.in_ok-message.message c.in_ok-message.ensures.found expected
    c.in_ok-part.part opened c.in-Err-answers.rule c.in-Err-answers.ensures.rejected

pub returns-clause-found : goal.returns-clause-found
returns-clause-found g c =
    let fits = c.ranges.usage in
    let expected = rw c.from.ensures at c.in_default.ensures.found in
    let opened = simp (to_z-of_z, c.cipher.ensures) at c.in_ok-part.ensures.found in
    record {
      message = c.in_ok-message.message;
      is_message = c.in_ok-message.ensures.found;
      expected = expected;
      part = c.in_ok-part.part;
      opened = opened;
      answers = c.in_default-answers.ensures.found;
      ticket_is = c.into_ticket.ensures;
      part_is = c.into_content.ensures;
    }

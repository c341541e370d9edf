use Rattle.krb_gss_per_message.proofs.SequenceTaking.{fills}
use Rattle.krb_gss_per_message.proofs.sequence.SequenceWindow.fill.Goals as goal

pub returns : goal.returns
returns c =
    fills c.args.self.now c.mark.new.self c.args.number c.mark.ensures.size c.requires c.mark.ensures.first c.mark.ensures.last c.mark.ensures.marked

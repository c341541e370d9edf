use Rattle.krb_show_tokens.proofs.KpasswdFrames.{told_longer, told_unread}
use Rattle.krb_show_tokens.proofs.kpasswd.frame.page_of_frame.Goals as goal

pub returns-in-Err : goal.returns-in-Err
returns-in-Err g c =
    told_unread g.F.ShowFrame.is_value g.F.ShowFrame.is_frame g.F.ShowFrame.rejected g.F.ShowFrame.shows (λ page. page.items) c.args.octets.now c.in-Err.why
    c.in-Err.ensures.first_error c.in-Err.ensures.reads

pub returns-then-taken-octets : goal.returns-then-taken-octets
returns-then-taken-octets g c =
    told_longer g.F.ShowFrame.is_value g.F.ShowFrame.is_frame g.F.ShowFrame.rejected g.F.ShowFrame.shows (λ page. page.items) c.args.octets.now c.in-Ok.read.0
    c.in-Ok.read.1 c.in-Ok.ensures.valid c.in-Ok.ensures.found c.if-taken-octets.true c.in-Ok.ensures.reads

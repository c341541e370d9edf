use Rattle.std.proofs.Common.{rules, sym, subst}
use Rattle.std.proofs.lemmas.List.{take_rest}
use Rattle.krb_messages.proofs.Frames.{header_cut, header_other, header_stands}
use Rattle.krb_messages.specs.Rejected.{TrailingHeader}
use Rattle.krb_messages.proofs.kpasswd.prefix.trailing_header.Goals as goal

pub returns-then-ne-clause-err : goal.returns-then-ne-clause-err
returns-then-ne-clause-err c = header_other c.args.octets.now (search rules) (search rules)

pub returns-then-octets-lt-HEADER_LENGTH-clause-err : goal.returns-then-octets-lt-HEADER_LENGTH-clause-err
returns-then-octets-lt-HEADER_LENGTH-clause-err c = header_cut c.args.octets.now (search rules) (search rules) (search rules)

pub returns-clause-ok : goal.returns-clause-ok
returns-clause-ok c = subst (TrailingHeader c.args.octets.now) (sym (take_rest c.args.octets.now 6)) (header_stands c.args.octets.now (search rules) (search rules))

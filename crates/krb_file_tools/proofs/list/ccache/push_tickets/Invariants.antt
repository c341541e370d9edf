use Rattle.std.proofs.Common.{ℕ, List, []}
use Rattle.krb_file_tools.specs.Lines.{IsCredentialLine, IsListing}
use Rattle.krb_file_tools.specs.Tickets.{tickets_of}
use Rattle.krb_file_tools.proofs.list.ccache.push_tickets.Given as goal

abbrev pub invariant-credentials : goal.invariant-credentials
invariant-credentials g l =
    (heads : List (List ℕ)) → IsListing heads (IsCredentialLine g.T.TicketEtypes.etype l.own) [] l.fn.text.items
    → IsListing heads (IsCredentialLine g.T.TicketEtypes.etype l.own) (tickets_of l.yielded) l.text.items

use Rattle.std.proofs.Common.{◌∙◌, ap, sym, List, [], ◌∷◌, ◌++◌, ℕ}
use Rattle.krb_file_tools.specs.Lines.{IsCredentialLine}
use Rattle.krb_file_tools.specs.Tickets.{is_ticket, tickets_of}
use Rattle.krb_file_tools.proofs.Listing.{listing_left, listing_more, listing_taken}
use Rattle.krb_file_tools.proofs.list.ccache.push_tickets.Goals as goal

pub credentials-preserved-then-is_ticket : goal.credentials-preserved-then-is_ticket
credentials-preserved-then-is_ticket g c = λ heads before.
    listing_taken (IsCredentialLine g.T.TicketEtypes.etype c.args.own.now) is_ticket heads c.credentials.yielded c.in-Some.credential
    c.push_line.new.out.items (sym c.is_ticket.ensures ∙ c.if-is_ticket.true)
    (listing_more (IsCredentialLine g.T.TicketEtypes.etype c.args.own.now) heads (tickets_of c.credentials.yielded) c.credentials.text.items c.in-Some.credential
    c.in_ok-line.line.items c.push_line.new.out.items (c.credentials.invariant heads before) c.in_ok-line.ensures.line c.in_ok-line.ensures.printable
    (c.in_ok-push_line.ensures ∙ ap (λ (l : List ℕ). c.credentials.text.items ++ l ++ 10 ∷ []) c.deref.ensures.value))

pub credentials-preserved : goal.credentials-preserved
credentials-preserved g c = λ heads before.
    listing_left (IsCredentialLine g.T.TicketEtypes.etype c.args.own.now) is_ticket heads c.credentials.yielded c.in-Some.credential
    c.credentials.text.items (sym c.is_ticket.ensures ∙ c.if-is_ticket.false) (c.credentials.invariant heads before)

use Rattle.std.proofs.Common.{◌≡◌, ◌∙◌, ap, subst, codes, List, [], ◌∷◌, ◌++◌, ℕ, arith}
use Rattle.krb_files.specs.Ccache.{Credential}
use Rattle.krb_file_tools.specs.Lines.{IsCredentialLine, IsListing, ccache_header}
use Rattle.krb_file_tools.specs.Tickets.{tickets_of}
use Rattle.krb_file_tools.specs.Principals.{principal_text}
use Rattle.krb_file_tools.proofs.Listing.{listing_none}
use Rattle.krb_show_text.specs.Text.{AreLines, ArePrintable, text_of_lines}
use Rattle.krb_show_text.proofs.Printable.{printable_append}
use Rattle.krb_file_tools.proofs.list.ccache.list_of.Goals as goal

-- the first two lines
heads_of : List ℕ → List (List ℕ)
heads_of own = (codes "Default principal: " ++ own) ∷ ccache_header ∷ []

header_printable : ArePrintable ccache_header
header_printable = grind arith

word_printable : ArePrintable (codes "Default principal: ")
word_printable = grind arith

heads_printable : (own : List ℕ) → ArePrintable own → AreLines (heads_of own)
unfolding heads_of
heads_printable own p = (printable_append (codes "Default principal: ") own word_printable p, (header_printable, tt))

-- the listing of a cache whose default principal has this text
made : (line : List ℕ → Credential → List ℕ → Type 0) (own lent first text whole : List ℕ) (lent_own : lent ≡ own) (cs credentials : List Credential) → cs ≡ credentials
    → ArePrintable own → first ≡ codes "Default principal: " ++ own → text ≡ text_of_lines (first ∷ ccache_header ∷ [])
    → ((heads : List (List ℕ)) → IsListing heads (line lent) [] text → IsListing heads (line lent) (tickets_of cs) whole)
    → IsListing (heads_of own) (line own) (tickets_of credentials) whole
unfolding heads_of
made line own lent first text whole lent_own cs credentials same p is_first is_text pushed =
    let before : IsListing (heads_of own) (line lent) [] text =
    listing_none (line lent) (heads_of own) text (heads_printable own p) (is_text ∙ ap (λ (f : List ℕ). text_of_lines (f ∷ ccache_header ∷ [])) is_first) in
    subst (λ (o : List ℕ). IsListing (heads_of own) (line o) (tickets_of credentials) whole) lent_own
    (subst (λ (l : List Credential). IsListing (heads_of own) (line lent) (tickets_of l) whole) same (pushed (heads_of own) before))

pub returns : goal.returns
unfolding heads_of
returns g c =
    let own : c.in_ok-own.own.items ≡ principal_text c.args.cache.now.principal.principal = grind arith in
    made (λ (o : List ℕ). IsCredentialLine g.T.TicketEtypes.etype o) (principal_text c.args.cache.now.principal.principal) c.deref-3.result.now c.deref-2.result.now
    c.in_ok-text.text.items c.push_tickets.new.text.items (c.deref-3.ensures.value ∙ own) c.credentials.result c.args.cache.now.credentials c.credentials.ensures
    (subst ArePrintable own c.in_ok-own.ensures.printable)
    (c.deref-2.ensures.value ∙ c.in_ok-first.ensures ∙ ap (λ (o : List ℕ). codes "Default principal: " ++ o) (c.deref.ensures.value ∙ own)) c.in_ok-text.ensures
    c.in_ok-push_tickets.ensures

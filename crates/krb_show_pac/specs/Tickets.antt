-- What is told of the PAC of a ticket.
use Rattle.std.specs.Prelude.{◌≡◌, ◌⊎◌, ℕ, List, codes}
use Rattle.krb_enc_parts.specs.declared.data_types.ticket_part.EncTicketPartInner.{EncTicketPartInner}
use Rattle.krb_types.specs.declared.data_types.authorization_data.AuthorizationDataInner.{AuthorizationDataInner}
use Rattle.krb_pac_signatures.specs.Signatures.{Signatures, SignaturesOf}
use Rattle.krb_pac_signatures.specs.declared.error.PacSignatureError.{PacSignatureError}
use Rattle.krb_show.specs.Pages.{◌then◌}
use Rattle.krb_show.specs.Tokens.{Token, plain}
use Rattle.krb_decrypt.specs.Keys.{NamedKey}
use Rattle.krb_show_pac.specs.Checksums.{over}
use Rattle.krb_show_pac.specs.Message.{IsTicketMessage, NoneHoldsPac, elements_of}
use Rattle.krb_show_pac.specs.Told.{IsRefused, pac_checksums, under_keys}

-- The ticket's checksum under the caller's own keys, where the octets are a PAC whose signatures are whole
abbrev pub ticket_told : List NamedKey → NamedKey → List ℕ → List ℕ → List Token → List Token → Type 0
ticket_told own key octets message old new =
    ((s : Signatures) × SignaturesOf octets s
    × under_keys (plain (codes "ticket-checksum")) (plain (codes "ticket-checksum-key")) own key (over message s.ticket) old new)
    ⊎ ((e : PacSignatureError) × IsRefused octets e × (new ≡ old))

-- the checksums of the first PAC of a ticket (AD-WIN2K-PAC, 128, within AD-IF-RELEVANT, 1; RFC 4120, 5.2.6.1 and 7.5.4; MS-PAC 2.3), and the
-- ticket's that it holds, over the encoding of the ticket with one zero octet in its place
abbrev pub ticket_checksums : (List AuthorizationDataInner → Type 0) → (List AuthorizationDataInner → List ℕ) → (EncTicketPartInner → List ℕ)
    → List NamedKey → NamedKey → EncTicketPartInner → List Token → List Token → Type 0
ticket_checksums is_value enc enc_ticket own key v old new =
    ((octets message : List ℕ) × IsTicketMessage is_value enc enc_ticket v (elements_of v) octets message
    × (pac_checksums own key octets then ticket_told own key octets message) old new)
    ⊎ (NoneHoldsPac is_value enc (elements_of v) × (new ≡ old))

-- What a KDC's reply has to be in the clear (RFC 4120, 3.1.5, 3.3.4, 5.3 and 5.4.2).
use Rattle.std.specs.Prelude.{◌≡◌, ℕ, ℤ, pos, Bool, true, false, List, [], ◌∷◌}
use Rattle.krb_crypto.specs.declared.cipher_suite.CipherSuite.{CipherSuite}
use Rattle.krb_messages.specs.declared.messages.replies.KdcRep.{KdcRep}
use Rattle.krb_client_rules.specs.declared.asked.Asked.{Asked}
use Rattle.krb_client_rules.specs.declared.mismatch.Mismatch.{Mismatch}
use Rattle.krb_client_rules.specs.declared.mismatch.Mismatch.TheVariants as rule
use Rattle.krb_client_rules.specs.Etypes.{IsAskedFor}
use Rattle.krb_client_rules.specs.InOrder.{BreaksFirst, Keeps}
use Rattle.krb_client_rules.specs.Names.{IsSameName, IsServer}

-- it is for the client that was asked for
abbrev pub IsForClient : Asked → KdcRep → Type 0
IsForClient a m = (m.crealm ≡ a.crealm) × IsSameName m.cname a.cname

-- In an AS-REP, the part is under an encryption type that was asked for (3.1.3). In a TGS-REP it is under a key that the client chose (3.3.3).
abbrev pub IsAskedOf : Bool → List CipherSuite → ℤ → Type 0
IsAskedOf true suites number = IsAskedFor suites number
IsAskedOf false suites number = Unit {0}

-- the rules; initial: the reply is an AS-REP; etype: the encryption type of the key
abbrev pub ReplyRule : Asked → Bool → ℕ → KdcRep → Mismatch → Type 0
ReplyRule a initial etype m rule.Client = IsForClient a m
ReplyRule a initial etype m rule.TicketVersion = m.ticket.tkt_vno ≡ pos 5
ReplyRule a initial etype m rule.Ticket = IsServer a m.ticket.realm m.ticket.sname
ReplyRule a initial etype m rule.Unasked = IsAskedOf initial a.etypes.items m.enc_part.etype
ReplyRule a initial etype m rule.EncryptionType = m.enc_part.etype ≡ pos etype
ReplyRule a initial etype m other = Unit {0}

abbrev pub reply_order : List Mismatch
reply_order = rule.Client ∷ rule.TicketVersion ∷ rule.Ticket ∷ rule.Unasked ∷ rule.EncryptionType ∷ []

-- the reply keeps them all
abbrev pub IsExpected : Asked → Bool → ℕ → KdcRep → Type 0
IsExpected a initial etype m = Keeps (ReplyRule a initial etype m) reply_order

-- this is the first that it does not keep
abbrev pub IsUnexpected : Asked → Bool → ℕ → KdcRep → Mismatch → Type 0
IsUnexpected a initial etype m broken = BreaksFirst (ReplyRule a initial etype m) reply_order broken

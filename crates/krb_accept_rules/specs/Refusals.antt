-- Refusals, their texts, and the numbers of errors (RFC 4120, 7.5.9).
use Rattle.std.specs.Prelude.{ℕ, List, None, codes}
use Rattle.krb_accept_rules.specs.declared.refusal.Refusal.{Refusal}
use Rattle.krb_accept_rules.specs.declared.refusal.Rule.{Rule}
use Rattle.krb_accept_rules.specs.declared.refusal.Rule.TheVariants as Rules

abbrev pub error_code : Rule → ℕ
error_code Rules.NotRequest = 40
error_code Rules.Version = 39
error_code Rules.MessageType = 40
error_code Rules.TicketVersion = 39
error_code Rules.Options = 60
error_code Rules.UserToUser = 67
error_code Rules.NotUs = 35
error_code Rules.NoKey = 45
error_code Rules.KeyVersion = 44
error_code Rules.TicketSuite = 14
error_code Rules.Ticket = 31
error_code Rules.Flags = 60
error_code Rules.SessionSuite = 14
error_code Rules.Authenticator = 31
error_code Rules.AuthenticatorVersion = 39
error_code Rules.Microseconds = 60
error_code Rules.SequenceNumber = 60
error_code Rules.Subkey = 14
error_code Rules.OtherClient = 36
error_code Rules.OtherAddress = 38
error_code Rules.Skew = 37
error_code Rules.NotYetValid = 33
error_code Rules.Invalid = 33
error_code Rules.Expired = 32
error_code Rules.Anonymous = 60
error_code Rules.ClientRealm = 60
error_code Rules.Path = 28
error_code Rules.CriticalData = 60
error_code Rules.DataForm = 60
error_code Rules.Unremembered = 34
error_code Rules.Repeat = 34
error_code Rules.OutOfMemory = 60

-- what a service says of the breach of a rule: RFC 4120, 3.2.3, has the rules, and no words for them
abbrev pub rule_text : Rule → List ℕ
rule_text Rules.NotRequest = codes "the message is not an AP-REQ"
rule_text Rules.Version = codes "pvno is not 5"
rule_text Rules.MessageType = codes "msg-type is not 14"
rule_text Rules.TicketVersion = codes "tkt-vno is not 5"
rule_text Rules.Options = codes "ap-options has fewer than 32 bits"
rule_text Rules.UserToUser = codes "the ticket is under a session key, as for user-to-user authentication"
rule_text Rules.NotUs = codes "no key for the server that the ticket names, or no client is let in for it"
rule_text Rules.NoKey = codes "no key of the ticket's encryption type"
rule_text Rules.KeyVersion = codes "no key of the kvno that the ticket names"
rule_text Rules.TicketSuite = codes "the ticket's encryption type is not supported or permitted"
rule_text Rules.Ticket = codes "no key decrypts the ticket"
rule_text Rules.Flags = codes "the ticket's flags have fewer than 32 bits"
rule_text Rules.SessionSuite = codes "the session key's encryption type is not permitted, or the authenticator names another"
rule_text Rules.Authenticator = codes "the session key does not decrypt the authenticator"
rule_text Rules.AuthenticatorVersion = codes "authenticator-vno is not 5"
rule_text Rules.Microseconds = codes "cusec is not of 0 to 999999"
rule_text Rules.SequenceNumber = codes "seq-number is not of 0 to 4294967295"
rule_text Rules.Subkey = codes "the subkey's encryption type is not permitted, or its length is another"
rule_text Rules.OtherClient = codes "the authenticator names another client than the ticket"
rule_text Rules.OtherAddress = codes "the ticket is not for the client's address"
rule_text Rules.Skew = codes "clock skew"
rule_text Rules.NotYetValid = codes "the ticket is not yet valid"
rule_text Rules.Invalid = codes "the ticket has the flag INVALID"
rule_text Rules.Expired = codes "the ticket has expired"
rule_text Rules.Anonymous = codes "the client is anonymous"
rule_text Rules.ClientRealm = codes "no client of this realm is let in"
rule_text Rules.Path = codes "no KDC has checked the path of realms"
rule_text Rules.CriticalData = codes "authorization data that a service has to understand, and does not"
rule_text Rules.DataForm = codes "the authorization data is malformed"
rule_text Rules.Unremembered = codes "the authenticator is older than the replay cache"
rule_text Rules.Repeat = codes "the authenticator was accepted before"
rule_text Rules.OutOfMemory = codes "an allocation failed"

-- the refusal by a rule of which nothing was seen
abbrev pub plain : Rule → Refusal
plain rule = record { rule = rule; seen = None }

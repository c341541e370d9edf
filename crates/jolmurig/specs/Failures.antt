-- The line and the status of a failure.
use Rattle.std.specs.Prelude.{◌≡◌, ℕ, ◌+◌, Option, Some, None, Err, List, [], ◌∷◌, ◌++◌, codes}
use Rattle.std.specs.Fmt.{decimal}
use Rattle.krb_file_tools.specs.declared.convert.error.ConvertError.{ConvertError}
use Rattle.krb_file_tools.specs.declared.convert.error.ConvertError.TheVariants as rule
use Rattle.krb_kdc_proxy.specs.Messages.{number_of}
use Rattle.krb_kdc_proxy.specs.declared.error.ProxyError.{ProxyError}
use Rattle.krb_kdc_proxy.specs.declared.error.ProxyError.TheVariants as proxy
use Rattle.krb_kdc_proxy.specs.declared.kind.MessageKind.{MessageKind}
use Rattle.krb_input.specs.declared.forms.InputError.{InputError}
use Rattle.krb_input.specs.declared.forms.InputError.TheVariants as input
use Rattle.krb_show_any.specs.Errors.{reason as page_reason}
use Rattle.krb_show_any.specs.declared.error.PageError.TheVariants as page
use Rattle.krb_show_any.specs.Names.{kind_name}
use Rattle.krb_show_any.specs.declared.kind.Kind.{Kind}
use Rattle.krb_show_any.specs.declared.kind.Kind.TheVariants as kinds
use Rattle.krb_show_text.specs.Text.{escaped}
use Rattle.krb_show_text.specs.declared.escape.Style.TheVariants as style
use Rattle.jolmurig.specs.Faults.{fault_text}
use Rattle.jolmurig.specs.Files.{Gives, UnreadFile, unread_reason}
use Rattle.jolmurig.specs.Hints.{hint_text}
use Rattle.jolmurig.specs.Unknowns.{unknown_reason, unknown_subject}
use Rattle.jolmurig.specs.declared.files.Purpose.{Purpose}
use Rattle.jolmurig.specs.declared.files.Purpose.TheVariants as purpose
use Rattle.jolmurig.specs.declared.files.Unread.{Unread}
use Rattle.jolmurig.specs.declared.failure.Failure.{Failure}
use Rattle.jolmurig.specs.declared.failure.Failure.TheVariants.{Arguments, NotText, NoType, Key, KeyInFile, Keytab, NotBase64, UnknownKind, NoEntries, Convert, Proxy, Octets, Time, Skew, Server, Realm, Bindings, Refused, Memory, Read, Write}
use Rattle.jolmurig.specs.declared.failure.Failure.TheVariants as failure
use Rattle.jolmurig.specs.declared.failure.Undecided.{Undecided}
use Rattle.jolmurig.specs.declared.failure.Undecided.TheVariants as undecided

abbrev pub status_of_failure : Failure → ℕ
status_of_failure (Arguments fault) = 2
status_of_failure NotText = 2
status_of_failure (NoType name) = 2
status_of_failure Key = 2
status_of_failure Time = 2
status_of_failure Skew = 2
status_of_failure Server = 2
status_of_failure Realm = 2
status_of_failure Bindings = 2
status_of_failure (failure.Undecided why) = 2
status_of_failure e = 1

-- a message begins with its application tag, constructed (RFC 4120, 5.10; X.690, 8.1.2)
abbrev pub kind_of_message : MessageKind → Kind
kind_of_message k = kinds.Application (96 + number_of k)

-- what breaks a rule of a proxy: a message, or what was to go through as a whole
abbrev pub breaker : ProxyError → List ℕ
breaker (proxy.Pvno k) = kind_name (kind_of_message k)
breaker (proxy.MsgType k) = kind_name (kind_of_message k)
breaker rule = codes "proxy"

-- ---- files

-- the option that names a file for a purpose, and a blank; the name of the input stands alone
abbrev pub option_of : Purpose → List ℕ
option_of purpose.Input = []
option_of purpose.Keytab = codes "--keytab "
option_of purpose.KeyFile = codes "--key-file "
option_of purpose.PasswordFile = codes "--password-file "

-- the name of a file behind its option; an octet that is not printable ASCII is `\xNN`
abbrev pub file_text : UnreadFile → List ℕ
file_text f = option_of f.purpose ++ escaped style.Plain f.name

-- a file is not read, for this reason
abbrev pub IsUnread : Gives → Purpose → List ℕ → Failure → Type 0
IsUnread gives purpose name e =
    (why : Unread) × gives name (Err why) × (e ≡ failure.NoFile (record { purpose = purpose; name = name; why = why }))

-- ---- the parts of the line

-- what nothing is decided of a token for, and why
abbrev pub undecided_subject : Undecided → List ℕ
undecided_subject (undecided.NoFile f) = file_text f
undecided_subject (undecided.Keytab why) = codes "--keytab"
undecided_subject undecided.Clock = codes "clock"
undecided_subject undecided.NotBase64 = codes "base64"
undecided_subject undecided.Memory = codes "memory"
undecided_subject undecided.Read = codes "reading"
undecided_subject undecided.Write = codes "writing"

abbrev pub undecided_reason : Undecided → List ℕ
undecided_reason (undecided.NoFile f) = unread_reason f.why
undecided_reason (undecided.Keytab why) = page_reason (page.Keytab why)
undecided_reason undecided.Clock = codes "the clock could not be read; --time names a time"
undecided_reason undecided.NotBase64 = codes "the input begins as PEM or as a header of HTTP, and no base64 follows"
undecided_reason undecided.Memory = codes "an allocation failed"
undecided_reason undecided.Read = codes "the input could not be read"
undecided_reason undecided.Write = codes "the output could not be written"

-- what the failure is of
abbrev pub subject : Failure → List ℕ
subject (Arguments fault) = fault_text fault
subject NotText = codes "an argument is not UTF-8"
subject (NoType name) = codes "--as: no type " ++ escaped style.Plain name
subject Key = codes "--key"
subject (failure.NoFile f) = file_text f
subject KeyInFile = codes "--key-file"
subject (Keytab why) = codes "--keytab"
subject NotBase64 = codes "base64"
subject (UnknownKind unknown) = unknown_subject unknown
subject NoEntries = codes "list"
subject (Convert rule) = codes "convert"
subject (Proxy rule) = breaker rule
subject (Octets kind why place) = kind_name kind
subject Time = codes "--time"
subject Skew = codes "--skew"
subject Server = codes "--server"
subject Realm = codes "--realm"
subject Bindings = codes "--bindings"
subject (failure.Undecided why) = undecided_subject why
subject Refused = codes "refused"
subject Memory = codes "memory"
subject Read = codes "reading"
subject Write = codes "writing"

-- the rule of a conversion that octets break
abbrev pub rule_of : ConvertError → List ℕ
rule_of rule.Pvno = codes "pvno is not 5"
rule_of rule.MsgType = codes "msg-type is not 22"
rule_of rule.Sealed = codes "enc-part is sealed: its etype is not 0"
rule_of rule.TicketInfo = codes "there are not as many elements of ticket-info as tickets"
rule_of rule.NoTicket = codes "there is no ticket"
rule_of rule.NoPrealm = codes "prealm is absent, and a cache needs it"
rule_of rule.NoPname = codes "pname is absent, and a cache needs it"
rule_of rule.NameType = codes "a name-type does not fit 32 bits"
rule_of rule.KeyType = codes "a keytype does not fit 16 bits"
rule_of rule.Time = codes "a time is not of 1970 to 2106"
rule_of rule.AddressType = codes "an addr-type does not fit 16 bits"
rule_of rule.TooLong = codes "a length or a count does not fit 32 bits"
rule_of rule.NoCredential = codes "there is no credential"
rule_of rule.Name = codes "an octet of a name is past 127"
rule_of rule.OutOfMemory = codes "an allocation failed"
rule_of other = codes "the octets are of another format"

-- the rule of a proxy that octets break; an error of an encoding is told as that of these octets
abbrev pub rule_of_proxy : ProxyError → List ℕ
rule_of_proxy proxy.TooLarge = codes "TooLarge: there are more than 131072 octets"
rule_of_proxy proxy.NoLength = codes "NoLength: the message has no length in front of it"
rule_of_proxy proxy.OtherLength = codes "OtherLength: the length in front of the message is not that of the message"
rule_of_proxy proxy.NoTargetDomain = codes "NoTargetDomain: target-domain is absent"
rule_of_proxy proxy.OtherKind = codes "OtherKind: the message is of no kind that goes this way"
rule_of_proxy proxy.FrameLength = codes "FrameLength: the frame is shorter than the message in it"
rule_of_proxy (proxy.Pvno k) = codes "Pvno: pvno is not 5"
rule_of_proxy (proxy.MsgType k) = codes "MsgType: msg-type is that of another message"
rule_of_proxy proxy.OutOfMemory = codes "an allocation failed"
rule_of_proxy other = codes "the octets are no encoding"

-- what happened, if it does not depend on a name that is given
abbrev pub plain_reason : Failure → List ℕ
plain_reason (Arguments fault) = codes "see jolmurig --help"
plain_reason NotText = codes "see jolmurig --help"
plain_reason (NoType name) = []
plain_reason Key =
    codes "a key is ETYPE:HEX, where ETYPE is 16 to 20 or the name of such an encryption type, and HEX the octets of a key of its length"
plain_reason (failure.NoFile f) = unread_reason f.why
plain_reason KeyInFile =
    codes "the file holds no key ETYPE:HEX, where ETYPE is 16 to 20 or the name of such an encryption type, and HEX the octets of a key of its length"
plain_reason (Keytab why) = page_reason (page.Keytab why)
plain_reason NotBase64 = codes "the input begins as PEM or as a header of HTTP, and no base64 follows"
plain_reason (UnknownKind unknown) = unknown_reason unknown
plain_reason NoEntries = codes "the octets begin as neither a keytab nor a credential cache"
plain_reason (Convert rule) = rule_of rule
plain_reason (Proxy rule) = rule_of_proxy rule
plain_reason (Octets kind why place) = page_reason why
plain_reason Time = codes "a time is the seconds since 1970 in decimal, or as 2026-01-02T03:04:05Z, of a year of 0 to 9999"
plain_reason Skew = codes "the skew is a number of seconds in decimal, of 0 to 4294967295"
plain_reason Server = codes "a server is SERVICE/HOST@REALM, in ASCII, as HTTP/www.example.com@EXAMPLE.COM; the realm may be left out, and so may the host"
plain_reason Realm = codes "a realm is one or more characters of ASCII, as EXAMPLE.COM"
plain_reason Bindings = codes "channel bindings are 32 hexadecimal digits, an MD5"
plain_reason (failure.Undecided why) = undecided_reason why
plain_reason Refused = codes "the output says why"
plain_reason Memory = codes "an allocation failed"
plain_reason Read = codes "the input could not be read"
plain_reason Write = codes "the output could not be written"

-- what happened
abbrev pub reason : Failure → List ℕ
reason (NoType name) = hint_text name
reason e = plain_reason e

-- what stands between these two
abbrev pub mark : Failure → List ℕ
mark (Arguments fault) = codes "; "
mark NotText = codes "; "
mark (NoType name) = codes "; "
mark e = codes ": "

-- how many octets stand before the error, if that is known
abbrev pub place : Failure → Option ℕ
place (Octets kind why found) = found
place e = None

abbrev pub placed : ℕ → List ℕ
placed at = codes ", at octet " ++ decimal at

abbrev pub place_text : Option ℕ → List ℕ
place_text None = []
place_text (Some at) = placed at

-- jolmurig: SUBJECT: REASON, and, if it is known, the place; jolmurig: FAULT; REASON
abbrev pub own_line : Failure → List ℕ
own_line e = codes "jolmurig: " ++ subject e ++ mark e ++ reason e ++ place_text (place e) ++ 10 ∷ []

-- that line; none where the output says why
abbrev pub line_of : Failure → List ℕ
line_of Refused = []
line_of e = own_line e

-- what an error of the input is reported as
abbrev pub of_input : InputError → Failure → Type 0
of_input input.NotBase64 e = e ≡ NotBase64
of_input input.OutOfMemory e = e ≡ Memory

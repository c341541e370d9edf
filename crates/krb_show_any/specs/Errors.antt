-- Which error a page has, and what it means.
use Rattle.std.specs.Prelude.{◌≡◌, ◌⊎◌, ℕ, List, codes, Result, Ok, Err}
use Rattle.std.specs.IoError.{error_kind}
use Rattle.std.specs.declared.io.Error.{Error}
use Rattle.std.specs.declared.io.ErrorKind.TheVariants as io
use Rattle.krb_der_core.specs.declared.error.Asn1DerError.{Asn1DerError}
use Rattle.krb_der_core.specs.declared.error.Asn1DerError.TheVariants as errors
use Rattle.krb_gss_tokens.specs.declared.error.GssApiMessageError.{GssApiMessageError}
use Rattle.krb_gss_tokens.specs.declared.error.GssApiMessageError.TheVariants as gss
use Rattle.krb_files.specs.declared.ccache.error.CcacheError.{CcacheError}
use Rattle.krb_files.specs.declared.ccache.error.CcacheError.TheVariants as ccache
use Rattle.krb_files.specs.declared.fields.error.FieldError.{FieldError}
use Rattle.krb_files.specs.declared.fields.error.FieldError.TheVariants as field
use Rattle.krb_files.specs.declared.keytab.error.KeytabError.{KeytabError}
use Rattle.krb_files.specs.declared.keytab.error.KeytabError.TheVariants as keytab
use Rattle.krb_messages.specs.declared.kpasswd.error.ReadFrameError.TheVariants as unread
use Rattle.krb_pac.specs.declared.error.PacError.{PacError}
use Rattle.krb_pac.specs.declared.error.PacError.TheVariants as pac
use Rattle.krb_show_pages.specs.declared.files.error.FilePageError.{FilePageError}
use Rattle.krb_show_pages.specs.declared.files.error.FilePageError.TheVariants as files
use Rattle.krb_show_tokens.specs.declared.kpasswd.error.PasswordFrameError.{PasswordFrameError}
use Rattle.krb_show_tokens.specs.declared.kpasswd.error.PasswordFrameError.TheVariants as frame
use Rattle.krb_show_any.specs.declared.error.PageError.{PageError}
use Rattle.krb_show_any.specs.declared.error.PageError.TheVariants as page

-- ---- an error of its kind, and want of memory

abbrev pub of_der : {P : Type 0} → Result P Asn1DerError → Result P PageError
of_der (Ok p) = Ok p
of_der (Err errors.OutOfMemory) = Err page.OutOfMemory
of_der (Err e) = Err (page.Der e)

abbrev pub of_token : {P : Type 0} → Result P GssApiMessageError → Result P PageError
of_token (Ok p) = Ok p
of_token (Err gss.OutOfMemory) = Err page.OutOfMemory
of_token (Err e) = Err (page.Token e)

abbrev pub of_pac : {P : Type 0} → Result P PacError → Result P PageError
of_pac (Ok p) = Ok p
of_pac (Err pac.OutOfMemory) = Err page.OutOfMemory
of_pac (Err e) = Err (page.Pac e)

abbrev pub of_exchange : {P : Type 0} → Result P Error → Result P PageError → Type 0
of_exchange (Ok p) result = result ≡ Ok p
of_exchange (Err e) result = ((error_kind e ≡ io.OutOfMemory) × (result ≡ Err page.OutOfMemory)) ⊎ (result ≡ Err (page.Negoex e))

abbrev pub of_frame : {P : Type 0} → Result P PasswordFrameError → Result P PageError
of_frame (Ok p) = Ok p
of_frame (Err (frame.Frame unread.OutOfMemory)) = Err page.OutOfMemory
of_frame (Err e) = Err (page.PasswordFrame e)

abbrev pub of_file : {P : Type 0} → Result P FilePageError → Result P PageError
of_file (Ok p) = Ok p
of_file (Err (files.Keytab e)) = Err (page.Keytab e)
of_file (Err (files.Ccache e)) = Err (page.Ccache e)
of_file (Err files.OutOfMemory) = Err page.OutOfMemory

-- ---- the error and what it means

abbrev pub der_reason : Asn1DerError → List ℕ
der_reason errors.InvalidData = codes "InvalidData: the octets are no DER encoding of this type"
der_reason errors.TruncatedData = codes "TruncatedData: the octets end too early, or a field is missing"
der_reason errors.UnsupportedValue = codes "UnsupportedValue: a length is indefinite or has more than eight octets"
der_reason (errors.Io e) = codes "reading failed"
der_reason errors.OutOfMemory = codes "out of memory"

abbrev pub token_reason : GssApiMessageError → List ℕ
token_reason (gss.InvalidId wanted found) = codes "InvalidId: the token id is of no message that is known"
token_reason (gss.InvalidMechanismOid wanted found) = codes "InvalidMechanismOid: the mechanism is another"
token_reason (gss.IoError e) = codes "UnexpectedEof: the octets end within the token"
token_reason (gss.InvalidMicFiller found) = codes "InvalidMicFiller: octets 3 to 7 are not all ff"
token_reason (gss.InvalidWrapFiller found) = codes "InvalidWrapFiller: octet 3 is not ff"
token_reason (gss.Asn1Error e) = der_reason e
token_reason gss.OutOfMemory = codes "out of memory"

abbrev pub pac_reason : PacError → List ℕ
pac_reason (pac.Version n) = codes "InvalidVersion: the version is not 0"
pac_reason (pac.PacBufferType n) = codes "PacBufferType: the number of no type of a buffer"
pac_reason (pac.IoError e) = codes "UnexpectedEof: the octets end within the directory"
pac_reason (pac.InvalidVersion n) = codes "InvalidVersion: the version is not 0"
pac_reason pac.InvalidRange = codes "InvalidRange: a buffer's octets are not all there"
pac_reason pac.OutOfMemory = codes "out of memory"

abbrev pub frame_reason : PasswordFrameError → List ℕ
frame_reason frame.TrailingOctets = codes "TrailingOctets: octets follow the frame"
frame_reason (frame.Frame unread.Cut) = codes "Cut: the octets end before the messages"
frame_reason (frame.Frame unread.Version) = codes "Version: the version is not 1"
frame_reason (frame.Frame (unread.ApMessage e)) = codes "ApMessage: the first message is no AP-REQ and no AP-REP"
frame_reason (frame.Frame (unread.KrbPriv e)) = codes "KrbPriv: the second message is no KRB-PRIV"
frame_reason (frame.Frame unread.OutOfMemory) = codes "out of memory"

abbrev pub record_reason : FieldError → List ℕ
record_reason field.Truncated = codes "InvalidRecord: a record ends within a number"
record_reason field.LengthPastEnd = codes "InvalidRecord: a length says more octets than a record has left"
record_reason field.CountPastEnd = codes "InvalidRecord: a count says more elements than a record has octets left"
record_reason field.RepetitionDiffers = codes "InvalidRecord: a number that stands twice differs"

abbrev pub keytab_reason : KeytabError → List ℕ
keytab_reason (keytab.InvalidVersion n) = codes "InvalidVersion: the version is not 2, octets 05 02"
keytab_reason keytab.Truncated = codes "Truncated: the octets end within the version, a record's length or a record"
keytab_reason (keytab.InvalidRecord e) = record_reason e

abbrev pub field_reason : FieldError → List ℕ
field_reason field.Truncated = codes "InvalidField: the octets end within a number"
field_reason field.LengthPastEnd = codes "InvalidField: a length says more octets than there are"
field_reason field.CountPastEnd = codes "InvalidField: a count says more elements than there are octets"
field_reason field.RepetitionDiffers = codes "InvalidField: a number that stands twice differs"

abbrev pub ccache_reason : CcacheError → List ℕ
ccache_reason (ccache.InvalidVersion n) = codes "InvalidVersion: the version is not 3 or 4, octets 05 03 or 05 04"
ccache_reason (ccache.InvalidField e) = field_reason e

abbrev pub reason : PageError → List ℕ
reason (page.Der e) = der_reason e
reason (page.Token e) = token_reason e
reason (page.Pac e) = pac_reason e
reason (page.Negoex e) = codes "the octets are no message of NEGOEX"
reason (page.PasswordFrame e) = frame_reason e
reason (page.Keytab e) = keytab_reason e
reason (page.Ccache e) = ccache_reason e
reason page.OutOfMemory = codes "out of memory"

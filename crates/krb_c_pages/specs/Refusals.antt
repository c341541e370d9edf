-- Which refusal it is that octets have no page.
use Rattle.krb_c_calls.specs.declared.call_error.CallError.{CallError}
use Rattle.krb_c_calls.specs.declared.call_error.CallError.TheVariants as refusals
use Rattle.krb_der_core.specs.declared.error.Asn1DerError.{Asn1DerError}
use Rattle.krb_der_core.specs.declared.error.Asn1DerError.TheVariants as errors
use Rattle.krb_gss_tokens.specs.declared.error.GssApiMessageError.{GssApiMessageError}
use Rattle.krb_gss_tokens.specs.declared.error.GssApiMessageError.TheVariants as gss
use Rattle.krb_files.specs.declared.ccache.error.CcacheError.{CcacheError}
use Rattle.krb_files.specs.declared.ccache.error.CcacheError.TheVariants as ccache
use Rattle.krb_files.specs.declared.keytab.error.KeytabError.{KeytabError}
use Rattle.krb_files.specs.declared.keytab.error.KeytabError.TheVariants as keytab
use Rattle.krb_messages.specs.declared.kpasswd.error.ReadFrameError.TheVariants as unread
use Rattle.krb_pac.specs.declared.error.PacError.{PacError}
use Rattle.krb_pac.specs.declared.error.PacError.TheVariants as pac
use Rattle.krb_show_tokens.specs.declared.kpasswd.error.PasswordFrameError.{PasswordFrameError}
use Rattle.krb_show_tokens.specs.declared.kpasswd.error.PasswordFrameError.TheVariants as frame
use Rattle.krb_show_any.specs.declared.error.PageError.{PageError}
use Rattle.krb_show_any.specs.declared.error.PageError.TheVariants as page

abbrev pub der_refusal : Asn1DerError → CallError
der_refusal errors.InvalidData = refusals.Invalid
der_refusal errors.TruncatedData = refusals.Truncated
der_refusal errors.UnsupportedValue = refusals.Unsupported
der_refusal (errors.Io e) = refusals.Never
der_refusal errors.OutOfMemory = refusals.Memory

abbrev pub token_refusal : GssApiMessageError → CallError
token_refusal (gss.InvalidId wanted found) = refusals.Token
token_refusal (gss.InvalidMechanismOid wanted found) = refusals.Token
token_refusal (gss.IoError e) = refusals.Truncated
token_refusal (gss.InvalidMicFiller found) = refusals.Token
token_refusal (gss.InvalidWrapFiller found) = refusals.Token
token_refusal (gss.Asn1Error e) = der_refusal e
token_refusal gss.OutOfMemory = refusals.Memory

abbrev pub pac_refusal : PacError → CallError
pac_refusal (pac.Version n) = refusals.OtherVersion
pac_refusal (pac.PacBufferType n) = refusals.PacType
pac_refusal (pac.IoError e) = refusals.Truncated
pac_refusal (pac.InvalidVersion n) = refusals.OtherVersion
pac_refusal pac.InvalidRange = refusals.PacRange
pac_refusal pac.OutOfMemory = refusals.Memory

abbrev pub frame_refusal : PasswordFrameError → CallError
frame_refusal frame.TrailingOctets = refusals.Invalid
frame_refusal (frame.Frame unread.Cut) = refusals.Truncated
frame_refusal (frame.Frame unread.Version) = refusals.OtherVersion
frame_refusal (frame.Frame (unread.ApMessage e)) = refusals.Invalid
frame_refusal (frame.Frame (unread.KrbPriv e)) = refusals.Invalid
frame_refusal (frame.Frame unread.OutOfMemory) = refusals.Memory

abbrev pub keytab_refusal : KeytabError → CallError
keytab_refusal (keytab.InvalidVersion n) = refusals.OtherVersion
keytab_refusal keytab.Truncated = refusals.Truncated
keytab_refusal (keytab.InvalidRecord e) = refusals.Invalid

abbrev pub ccache_refusal : CcacheError → CallError
ccache_refusal (ccache.InvalidVersion n) = refusals.OtherVersion
ccache_refusal (ccache.InvalidField e) = refusals.Invalid

-- of any kind
abbrev pub page_refusal : PageError → CallError
page_refusal (page.Der e) = der_refusal e
page_refusal (page.Token e) = token_refusal e
page_refusal (page.Pac e) = pac_refusal e
page_refusal (page.Negoex e) = refusals.Invalid
page_refusal (page.PasswordFrame e) = frame_refusal e
page_refusal (page.Keytab e) = keytab_refusal e
page_refusal (page.Ccache e) = ccache_refusal e
page_refusal page.OutOfMemory = refusals.Memory

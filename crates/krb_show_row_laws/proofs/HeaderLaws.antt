-- The header of an IAKERB message is told by its lines (draft-ietf-kitten-iakerb-03, 3).
use Rattle.std.proofs.Common.{◌≡◌, true, refl, List, codes}
use Rattle.std.specs.Option.{IfSome}
use Rattle.std.specs.Str.{IsUtf8}
use Rattle.krb_der_core.specs.BitString.{IsBits}
use Rattle.krb_der_core.specs.Encoding.{IsOctets}
use Rattle.krb_gss_tokens.specs.declared.iakerb_header.messages.header.IAKerbHeader.{IAKerbHeader}
use Rattle.krb_show.specs.Leaves.{flags_of, octets_of, text_of}
use Rattle.krb_show.specs.Pages.{◌then◌, optional_of, struct_of}
use Rattle.krb_show.specs.Tokens.{Label, Token, plain}
use Rattle.krb_show_row_laws.specs.Telling.{is_name}
use Rattle.krb_show_row_laws.specs.Blocks.{IsStruct, TellsValues}
use Rattle.krb_show_row_laws.specs.Texts.{OneText}
use Rattle.krb_show_row_laws.proofs.FieldLaws.{◌and◌, tells_optional}
use Rattle.krb_show_row_laws.proofs.StructLaws.{tells_structs}
use Rattle.krb_show_row_laws.proofs.LeafLaws.{tells_flags, tells_octets, tells_utf8}
use Rattle.krb_show_row_laws.proofs.PageLaws.{one_page}

abbrev pub header_of : Label → IAKerbHeader → List Token → List Token → Type 0
header_of label v = struct_of label (
    text_of (plain (codes "target-realm")) v.target_realm
    then optional_of (octets_of (plain (codes "cookie"))) v.cookie.0
    then optional_of (flags_of (plain (codes "flags"))) v.flags.0)

-- what its fields are
abbrev pub IsHeader : IAKerbHeader → Type 0
IsHeader v = IsUtf8 v.target_realm × IfSome v.cookie.0 IsOctets × IfSome v.flags.0 IsBits

tells_headers : TellsValues IsHeader IsStruct header_of
tells_headers = tells_structs (λ v w h k.
    tells_utf8.tells (plain (codes "target-realm")) v.target_realm w.target_realm refl h.0 k.0
    and tells_optional tells_octets (plain (codes "cookie")) v.cookie.0 w.cookie.0 refl h.1 k.1
    and tells_optional tells_flags (plain (codes "flags")) v.flags.0 w.flags.0 refl h.2 k.2)
    refl (λ v w p. λ i. record { target_realm = p.0.0 i; cookie = record { 0 = p.0.1 i }; flags = record { 0 = p.1 i } })

pub one_header : (label : Label) → is_name label.text ≡ true → OneText IsHeader (header_of label)
one_header label name = one_page tells_headers label name

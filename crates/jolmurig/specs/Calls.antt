-- What the program calls of the library.
use Rattle.std.specs.Prelude.{◌≡◌, ℕ, List, [], Option}
use Rattle.krb_files.specs.Ccache.{Ccache, CcacheIs}
use Rattle.krb_file_tools.specs.Back.{CcacheRefusal, IsKirbiOf}
use Rattle.krb_file_tools.specs.Whole.{IsCacheOf, KirbiRefusal}
use Rattle.krb_file_tools.specs.declared.convert.error.ConvertError.{ConvertError}
use Rattle.krb_file_tools.specs.declared.convert.field.Field.{Field}
use Rattle.krb_der_core.specs.declared.der.DerEncode.{Ghosts as EncodingOf}
use Rattle.krb_kdc_proxy.specs.Replies.{ReplyTypes}
use Rattle.krb_kdc_proxy.specs.Requests.{IsNoRequest, IsRequest, RequestTypes}
use Rattle.krb_kdc_proxy.specs.Streams.{IsNoStreamReply, IsPosting}
use Rattle.krb_kdc_proxy.specs.declared.error.ProxyError.{ProxyError}
use Rattle.krb_kdc_proxy.specs.declared.request.ProxyRequest.{ProxyRequest}
use Rattle.krb_files.specs.Entry.{Entry}
use Rattle.krb_files.specs.Keytab.{KeytabIs}
use Rattle.krb_file_tools.specs.Lines.{IsCcacheListing, IsKeytabListing, IsNoCcache, IsNoKeytab}
use Rattle.krb_file_tools.specs.Texts.{IsEncodedEtypeText}
use Rattle.krb_file_tools.specs.declared.list.error.ListError.{ListError}
use Rattle.krb_messages.specs.declared.messages.proxy.KdcProxyMessage.{KdcProxyMessage}
use Rattle.krb_messages.specs.declared.messages.credentials.KrbCredInner.{KrbCredInner}
use Rattle.krb_enc_parts.specs.declared.data_types.credentials.EncKrbCredPartInner.{EncKrbCredPartInner}
use Rattle.krb_types.specs.declared.data_types.tickets.TicketInner.{TicketInner}
use Rattle.krb_schema.specs.declared.item.Item.{Item}
use Rattle.krb_show.specs.Tokens.{Token}
use Rattle.krb_show_any.specs.declared.error.PageError.{PageError}
use Rattle.krb_show_any.specs.declared.kind.Kind.{Kind}
use Rattle.krb_decrypt.specs.Keys.{NamedKey}
use Rattle.jolmurig.specs.declared.calls.Entries.{Entries}
use Rattle.jolmurig.specs.declared.calls.Entries.TheVariants as entries
use Rattle.jolmurig.specs.Requests.{IsLineOf}
use Rattle.jolmurig_command.specs.declared.command.Direction.{Direction}
use Rattle.jolmurig_command.specs.declared.command.Direction.TheVariants as direction
use Rattle.jolmurig_command.specs.declared.command.Format.{Format}
use Rattle.jolmurig_command.specs.declared.command.Format.TheVariants as format

-- what is opened in a page: how many keys there may be, the keys, the page before and after
abbrev pub Opens : Type 1
Opens = ℕ → List NamedKey → List Token → List Token → Type 0

-- where an error of octets of a kind is, if that is known
abbrev pub Places : Type 1
Places = Kind → PageError → List ℕ → Option ℕ → Type 0

-- which items of octets of a kind break a rule
abbrev pub Breaks : Type 1
Breaks = Kind → List ℕ → List Item → Type 0

-- the list of a file of entries
abbrev pub Lists : Type 1
Lists = Entries → List ℕ → List ℕ → Type 0

abbrev pub listed_as : EncodingOf TicketInner → Lists
listed_as ticket entries.Keytab octets text = (all : List Entry) × KeytabIs octets all × IsKeytabListing all text
listed_as ticket entries.Ccache octets text =
    (cache : Ccache) × CcacheIs octets cache × IsCcacheListing (IsEncodedEtypeText ticket.is_value ticket.enc (λ t. t.enc_part.etype)) cache text

abbrev pub no_list : Entries → List ℕ → ListError → Type 0
no_list entries.Keytab octets e = IsNoKeytab octets e
no_list entries.Ccache octets e = IsNoCcache octets e

-- octets in a format, and what is left out; why there are none
abbrev pub Converts : Type 1
Converts = Format → List ℕ → List ℕ → List Field → Type 0

abbrev pub Refuses : Type 1
Refuses = Format → List ℕ → ConvertError → Type 0

abbrev pub converted_to : EncodingOf KrbCredInner → EncodingOf EncKrbCredPartInner → EncodingOf TicketInner → Converts
converted_to message part ticket format.Kirbi octets made left_out = IsKirbiOf message part ticket octets made left_out
converted_to message part ticket format.Ccache octets made left_out = IsCacheOf message part ticket.enc octets made left_out

abbrev pub unconverted_to : EncodingOf KrbCredInner → EncodingOf EncKrbCredPartInner → EncodingOf TicketInner → Refuses
unconverted_to message part ticket format.Kirbi octets e = CcacheRefusal ticket octets e
unconverted_to message part ticket format.Ccache octets e = KirbiRefusal message part ticket.enc octets e

-- the octets that a proxy passes on, and the line that says for whom; why it passes on none
abbrev pub Passes : Type 1
Passes = Direction → List ℕ → List ℕ → List ℕ → Type 0

abbrev pub Blocks : Type 1
Blocks = Direction → List ℕ → ProxyError → Type 0

-- of a request what goes over a stream, and a line; of what a KDC sent over a stream the KDC-PROXY-MESSAGE that goes back, and no line
abbrev pub passed_on : EncodingOf KdcProxyMessage → RequestTypes → ReplyTypes → Passes
passed_on proxy requests replies direction.Request octets made line = (r : ProxyRequest) × IsRequest proxy requests octets r × (made ≡ r.stream.now) × IsLineOf r line
passed_on proxy requests replies direction.Reply octets made line = (datagram : List ℕ) × IsPosting proxy replies octets datagram made × (line ≡ [])

abbrev pub blocked : EncodingOf KdcProxyMessage → RequestTypes → ReplyTypes → Blocks
blocked proxy requests replies direction.Request octets e = IsNoRequest proxy requests octets e
blocked proxy requests replies direction.Reply octets e = IsNoStreamReply replies octets e

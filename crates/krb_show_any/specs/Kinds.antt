-- What octets begin as.
use Rattle.std.specs.Prelude.{ℕ, nat_eq, nat_le, ◌+◌, ◌*◌, length, slice_index, ◌||◌, ◌&&◌, Bool, true, if◌then◌else◌, Option, Some, None, List, [], ◌∷◌}
use Rattle.krb_show_pages.specs.Told.{is_message, is_part}
use Rattle.krb_show_any.specs.declared.kind.Kind.{Kind}
use Rattle.krb_show_any.specs.declared.kind.Kind.TheVariants as kind

-- the first octet of a message or of an opened part (RFC 4120, 5.10)
abbrev pub is_application : ℕ → Bool
is_application tag = is_message tag || is_part tag

-- that of a token of the GSS-API in a frame (RFC 2743, 3.1), of a NegTokenInit or of a NegTokenResp (RFC 4178, 4.2)
abbrev pub is_token_tag : ℕ → Bool
is_token_tag tag = nat_eq tag 96 || nat_eq tag 160 || nat_eq tag 161

-- whether the octet at this place is this
abbrev pub is_at : List ℕ → ℕ → ℕ → Bool
is_at octets place octet = nat_eq (slice_index octets place) octet

-- the fourth octet is the filler of a Wrap token, ff (RFC 4121, 4.2.6.2), or there is none
abbrev pub is_filler : List ℕ → Bool
is_filler octets = if nat_le 4 (length octets) then is_at octets 3 255 else true

-- the token id of MIC or of Wrap (RFC 4121, 4.2.6), behind which Wrap has its filler
abbrev pub is_per_message : List ℕ → Bool
is_per_message octets = nat_le 2 (length octets) && is_at octets 1 4 && (is_at octets 0 4 || (is_at octets 0 5 && is_filler octets))

-- seven zeros behind the first octet: the other octets of a PAC's count, and its version (MS-PAC, 2.3)
abbrev pub is_zeros : List ℕ → Bool
is_zeros octets =
    nat_le 8 (length octets) && is_at octets 1 0 && is_at octets 2 0 && is_at octets 3 0 && is_at octets 4 0 && is_at octets 5 0 && is_at octets 6 0
    && is_at octets 7 0

-- the signature of a message of NEGOEX, NEGOEXTS (MS-NEGOEX, 2.2.6.2)
abbrev pub is_negoex : List ℕ → Bool
is_negoex octets =
    nat_le 8 (length octets) && is_at octets 0 78 && is_at octets 1 69 && is_at octets 2 71 && is_at octets 3 79 && is_at octets 4 69 && is_at octets 5 88
    && is_at octets 6 84 && is_at octets 7 83

-- the number of all octets, and version 1 (RFC 3244, 2)
abbrev pub is_frame : List ℕ → Bool
is_frame octets =
    nat_le 4 (length octets) && is_at octets 2 0 && is_at octets 3 1 && nat_eq (slice_index octets 0 * 256 + slice_index octets 1) (length octets)

-- version 2 (MIT Kerberos, "Keytab file format")
abbrev pub is_keytab : List ℕ → Bool
is_keytab octets = nat_le 2 (length octets) && is_at octets 0 5 && is_at octets 1 2

-- version 3 or 4 (MIT Kerberos, "Credential cache file format")
abbrev pub is_ccache : List ℕ → Bool
is_ccache octets = nat_le 2 (length octets) && is_at octets 0 5 && (is_at octets 1 3 || is_at octets 1 4)

-- what octets begin as, where no tag tells it
abbrev pub kind_without_tag : List ℕ → Option Kind
kind_without_tag octets =
    if is_per_message octets then Some kind.Token
    else if is_negoex octets then Some kind.Negoex
    else if is_zeros octets then Some kind.Pac
    else if is_frame octets then Some kind.PasswordFrame
    else if is_keytab octets then Some kind.Keytab
    else if is_ccache octets then Some kind.Ccache
    else None

-- what octets begin as
abbrev pub kind_of : List ℕ → Option Kind
kind_of [] = None
kind_of (tag ∷ octets) =
    if is_application tag then Some (kind.Application tag) else if is_token_tag tag then Some kind.Token else kind_without_tag (tag ∷ octets)

-- one fact for each kind
abbrev pub by_kind : Kind → (ℕ → Type 0) → Type 0 → Type 0 → Type 0 → Type 0 → Type 0 → Type 0 → (List ℕ → Type 0) → Type 0 → Type 0
by_kind (kind.Application tag) application token pac negoex frame keytab ccache named tree = application tag
by_kind kind.Token application token pac negoex frame keytab ccache named tree = token
by_kind kind.Pac application token pac negoex frame keytab ccache named tree = pac
by_kind kind.Negoex application token pac negoex frame keytab ccache named tree = negoex
by_kind kind.PasswordFrame application token pac negoex frame keytab ccache named tree = frame
by_kind kind.Keytab application token pac negoex frame keytab ccache named tree = keytab
by_kind kind.Ccache application token pac negoex frame keytab ccache named tree = ccache
by_kind (kind.Type name) application token pac negoex frame keytab ccache named tree = named name.now
by_kind kind.Tree application token pac negoex frame keytab ccache named tree = tree

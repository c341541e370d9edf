-- The salts of a page.
use Rattle.std.specs.Prelude.{ℕ, Bool, true, false, ◌&&◌, if◌then◌else◌, List, [], ◌∷◌, ◌++◌, take, Option, None, Some}
use Rattle.std.specs.List.{flat_map}
use Rattle.krb_schema.specs.declared.shape.Role.{Role}
use Rattle.krb_schema.specs.declared.shape.Role.TheVariants as roles
use Rattle.krb_show.specs.declared.token.Form.{Form}
use Rattle.krb_show.specs.declared.token.Form.TheVariants as form
use Rattle.krb_show.specs.Tokens.{Token}

-- what a token is to programs (RFC 4120, 4)
abbrev pub is_salt : Role → Bool
is_salt roles.Salt = true
is_salt other = false

abbrev pub is_client_realm : Role → Bool
is_client_realm roles.ClientRealm = true
is_client_realm other = false

abbrev pub is_client_name : Role → Bool
is_client_name roles.ClientName = true
is_client_name other = false

abbrev pub is_server_realm : Role → Bool
is_server_realm roles.ServerRealm = true
is_server_realm other = false

abbrev pub is_server_name : Role → Bool
is_server_name roles.ServerName = true
is_server_name other = false

-- a text, and the begin of a struct
abbrev pub is_text : Form → Bool
is_text form.Text = true
is_text f = false

abbrev pub is_struct : Form → Bool
is_struct form.Struct = true
is_struct f = false

abbrev pub first_of : Option (List ℕ) → Option (List ℕ) → Option (List ℕ)
first_of None second = second
first_of (Some first) second = Some first

-- ---- a salt by a principal

-- the default salt (RFC 4120, 4): the realm, and behind it the components of the name, one behind another
abbrev pub joined : List (List ℕ) → List ℕ
joined components = flat_map (λ c. c) components

abbrev pub default_salt : List ℕ → List (List ℕ) → List ℕ
default_salt realm components = realm ++ joined components

-- the components of the name whose struct, with such a role, tokens begin with: its type and its components (RFC 4120, 5.2.2)
abbrev pub name_at : (Role → Bool) → List Token → Option (List (List ℕ))
name_at is_name (s ∷ n ∷ t ∷ ts) = if is_struct s.form && is_name s.label.role && is_text t.form then Some t.components else None
name_at is_name ts = None

abbrev pub salt_if : List ℕ → Option (List (List ℕ)) → Option (List ℕ)
salt_if realm None = None
salt_if realm (Some components) = Some (default_salt realm components)

-- a realm, and the name behind it: a client's and a server's (RFC 4120, 5.3, 5.4 and 5.8)
abbrev pub realm_and_name : List Token → Option (List ℕ)
realm_and_name [] = None
realm_and_name (r ∷ ts) =
    if is_client_realm r.label.role then salt_if r.octets (name_at is_client_name ts)
    else if is_server_realm r.label.role then salt_if r.octets (name_at is_server_name ts)
    else None

-- a client's name, the end of its struct, and the realm behind it (RFC 4120, 5.4.1, KDC-REQ-BODY)
abbrev pub fifth : List Token → Option Token
fifth (a ∷ b ∷ c ∷ d ∷ e ∷ ts) = Some e
fifth ts = None

abbrev pub with_realm : Option Token → List Token → Option (List ℕ)
with_realm None ts = None
with_realm (Some r) ts = if is_server_realm r.label.role then salt_if r.octets (name_at is_client_name ts) else None

abbrev pub name_and_realm : List Token → Option (List ℕ)
name_and_realm ts = with_realm (fifth ts) ts

-- ---- a salt as the KDC tells it

-- the salt of an ETYPE-INFO2-ENTRY (RFC 4120, 5.2.7.5)
abbrev pub told_salt : List Token → Option (List ℕ)
told_salt [] = None
told_salt (t ∷ ts) = if is_salt t.label.role then Some t.octets else None

-- ---- the whole

-- the salt that tokens begin with
abbrev pub salt_at : List Token → Option (List ℕ)
salt_at ts = first_of (told_salt ts) (first_of (realm_and_name ts) (name_and_realm ts))

abbrev pub in_list : Option (List ℕ) → List (List ℕ)
in_list None = []
in_list (Some salt) = salt ∷ []

-- the salts that begin at any token, in their order
abbrev pub salts_in : List Token → List (List ℕ)
salts_in [] = []
salts_in (t ∷ ts) = in_list (salt_at (t ∷ ts)) ++ salts_in ts

-- the first sixteen
abbrev pub salts_of : List Token → List (List ℕ)
salts_of page = take 16 (salts_in page)

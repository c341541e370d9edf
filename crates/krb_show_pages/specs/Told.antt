-- Which first octets messages and opened parts have.
use Rattle.std.specs.Prelude.{ℕ, nat_eq, nat_le, Bool, ◌||◌, ◌&&◌}

-- the first octet of a message (RFC 4120, 5.10): Ticket, the requests and replies of a KDC, AP-REQ and AP-REP, KRB-PRIV, KRB-CRED, KRB-ERROR
abbrev pub is_message : ℕ → Bool
is_message tag = nat_eq tag 97 || (nat_le 106 tag && nat_le tag 111) || nat_eq tag 117 || nat_eq tag 118 || nat_eq tag 126

-- that of an opened part (RFC 4120, 5.10): Authenticator, EncTicketPart, EncASRepPart to EncKrbCredPart
abbrev pub is_part : ℕ → Bool
is_part tag = nat_eq tag 98 || nat_eq tag 99 || (nat_le 121 tag && nat_le tag 125)

-- Keys under which a checksum holds, and keys among keys.
use Rattle.std.specs.Prelude.{◌≡◌, ◌||◌, ℕ, Bool, true, false, nat_eq, IsTrue, List, [], ◌∷◌, ◌++◌, codes}
use Rattle.std.specs.List.{AllByRecursion, starts_with}
use Rattle.krb_pac_signatures.specs.declared.verdict.Verdict.TheVariants as verdict
use Rattle.krb_decrypt.specs.Keys.{NamedKey}
use Rattle.krb_show_pac.specs.Checksums.{PacChecksum, HasVerdict}

-- it is the checksum of its message under this key
abbrev pub HoldsUnder : PacChecksum → NamedKey → Type 0
HoldsUnder c key = HasVerdict c key.octets verdict.Holds

-- of none of the keys this is so
abbrev pub NoneWhere : (NamedKey → Type 0) → List NamedKey → Type 0
NoneWhere P keys = AllByRecursion (λ key. P key → ⊥) keys

-- it is so of this one of them, and of none before it
pub record IsFirstWhere (P : NamedKey → Type 0) (keys : List NamedKey) (key : NamedKey) : Type 0 where
  pub front : List NamedKey
  pub back : List NamedKey
  pub among : keys ≡ front ++ key ∷ back
  pub first : NoneWhere P front
  pub holds : P key

-- it is the checksum of its message under none of these keys; under this one and none before it
abbrev pub HoldsUnderNone : PacChecksum → List NamedKey → Type 0
HoldsUnderNone c keys = NoneWhere (HoldsUnder c) keys

abbrev pub IsFirstHolder : PacChecksum → List NamedKey → NamedKey → Type 0
IsFirstHolder c keys key = IsFirstWhere (HoldsUnder c) keys key

-- two keys of one suite and the same octets, whatever their names are
abbrev pub AreSame : NamedKey → NamedKey → Type 0
AreSame key other = (key.suite ≡ other.suite) × (key.octets ≡ other.octets)

abbrev pub IsNoneOf : NamedKey → List NamedKey → Type 0
IsNoneOf key keys = AllByRecursion (λ other. AreSame key other → ⊥) keys

pub record IsOneOf (key : NamedKey) (keys : List NamedKey) : Type 0 where
  pub front : List NamedKey
  pub other : NamedKey
  pub back : List NamedKey
  pub among : keys ≡ front ++ other ∷ back
  pub same : AreSame key other

-- ---- the key of the KDC (MS-PAC 2.8.2 to 2.8.4), which is that of krbtgt

-- a name has ` kvno ` in it
unfoldable pub has_version : List ℕ → Bool
has_version [] = false
has_version (c ∷ cs) = starts_with nat_eq (c ∷ cs) (codes " kvno ") || has_version cs

-- its name is that of a keytab's entry, which is of a principal, as `krbtgt/LAB@LAB kvno 1`
abbrev pub is_entrys : NamedKey → Bool
is_entrys key = has_version key.name

-- the principal is krbtgt of a realm
abbrev pub is_krbtgts : NamedKey → Bool
is_krbtgts key = starts_with nat_eq key.name (codes "krbtgt/")

-- two keys of the same octets, whatever their suites and names
abbrev pub HaveSameOctets : NamedKey → NamedKey → Type 0
HaveSameOctets key other = key.octets ≡ other.octets

-- It is krbtgt's, if its name is of a principal; else its octets are not those of the key that opened
-- the ticket. That is the key of the ticket's service, who can make any checksum with it.
abbrev pub may_be_kdcs : Bool → Bool → Type 0 → Type 0
may_be_kdcs true krbtgts opens = IsTrue krbtgts
may_be_kdcs false krbtgts opens = opens → ⊥

abbrev pub MayBeKdcs : NamedKey → NamedKey → Type 0
MayBeKdcs opener key = may_be_kdcs (is_entrys key) (is_krbtgts key) (HaveSameOctets key opener)

-- it is the checksum of its message under a key that may be the KDC's
abbrev pub HoldsAsKdcs : PacChecksum → NamedKey → NamedKey → Type 0
HoldsAsKdcs c opener key = MayBeKdcs opener key × HoldsUnder c key

-- it is not under a key that may be the KDC's, and has the length of the keys of the checksum's type
abbrev pub FailsAsKdcs : PacChecksum → NamedKey → NamedKey → Type 0
FailsAsKdcs c opener key = MayBeKdcs opener key × HasVerdict c key.octets verdict.Differs

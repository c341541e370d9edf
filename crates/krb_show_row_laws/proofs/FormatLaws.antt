-- The formats of `krb_show_messages` tell their octets.
use Rattle.std.proofs.Common.{◌≡◌, ℕ, Bool, true, false, if◌then◌else◌, inl, inr, refl, sym, ap, ◌∙◌, List, [], ◌∷◌, ◌++◌}
use Rattle.std.specs.Prelude.{◌≢◌, None, Some}
use Rattle.krb_der_core.specs.Encoding.{IsOctets}
use Rattle.krb_schema.specs.declared.shape.Role.{Role}
use Rattle.krb_schema.specs.declared.shape.Role.TheVariants as roles
use Rattle.krb_show.specs.Leaves.{octets_of}
use Rattle.krb_show_text.specs.Text.{page_lines}
use Rattle.krb_show.specs.Tokens.{Label, Token}
use Rattle.krb_show_messages.specs.Pac.{pac_of}
use Rattle.krb_show_messages.specs.Formats.{behind_number, deleg_of, formats_of, gss_checksum, no_formats, win2k_pac}
use Rattle.krb_show_messages.specs.GssChecksum.{gss_checksum_of}
use Rattle.krb_show_messages.specs.Prefixed.{prefixed_of}
use Rattle.krb_show_row_laws.specs.Telling.{is_name}
use Rattle.krb_show_row_laws.specs.Blocks.{Adds, Follow, Tells, same_octets}
use Rattle.krb_show_row_laws.specs.Firsts.{BeginsAs, Firsts, Opening, of_leaf, of_list, of_struct, openings}
use Rattle.krb_show_row_laws.specs.Formats.{FormatsTell}
use Rattle.krb_show_row_laws.specs.KerberosFormats.{behind_this, kerberos_kinds}
use Rattle.krb_show_row_laws.proofs.BlockLaws.{same_itself}
use Rattle.krb_show_row_laws.proofs.FieldLaws.{tells_so}
use Rattle.krb_show_row_laws.proofs.LeafLaws.{tells_octets}
use Rattle.krb_show_row_laws.proofs.FirstLaws.{one_first}
use Rattle.krb_show_row_laws.proofs.EitherLaws.{any_opening, struct_or_leaf}
use Rattle.krb_show_row_laws.proofs.ChecksumLaws.{tells_checksums}
use Rattle.krb_show_row_laws.proofs.PacLaws.{tells_pac}
use Rattle.krb_show_row_laws.proofs.PrefixedLaws.{tells_deleg, tells_prefixed}

-- ---- what stands behind one number, and behind others

module _ (wanted : List ℕ) (these : List Opening) (label : Label) (octets : List ℕ) (this : List Token → List Token → Type 0)
    (first : Firsts (openings these label.text) this) (leaf : Firsts (openings (of_leaf ∷ []) label.text) (octets_of label octets))
    (also : (old new : List Token) → BeginsAs (openings (of_leaf ∷ []) label.text) old new → BeginsAs (openings these label.text) old new) where
  -- behind whatever number
  behind_any : (number : List ℕ) → Firsts (openings these label.text) (behind_number wanted number this (octets_of label octets))
  behind_any number = record { first = either }
    where
      either : (old new : List Token) → behind_number wanted number this (octets_of label octets) old new → BeginsAs (openings these label.text) old new
      either old new (inl (e, h)) = first.first old new h
      either old new (inr (n, h)) = also old new (leaf.first old new h)

  behind_other : (number : List ℕ) → number ≢ wanted → Firsts (openings (of_leaf ∷ []) label.text) (behind_number wanted number this (octets_of label octets))
  behind_other number other = record { first = either }
    where
      either : (old new : List Token) → behind_number wanted number this (octets_of label octets) old new
          → BeginsAs (openings (of_leaf ∷ []) label.text) old new
      either old new (inl (e, h)) = absurd (other e)
      either old new (inr (n, h)) = leaf.first old new h

  -- behind this one
  behind_one : (number : List ℕ) → Firsts (openings (behind_this wanted these (Some number)) label.text)
      (behind_number wanted number this (octets_of label octets))
  behind_one number = by_test (same_octets number wanted) refl
    where
      not_both : (xs ys : List ℕ) → same_octets xs ys ≡ false → xs ≡ ys → ⊥
      not_both xs ys e f = let same = sym (same_itself xs) ∙ ap (same_octets xs) f ∙ e in cc

      by_test : (b : Bool) → same_octets number wanted ≡ b
          → Firsts (openings (if b then these else of_leaf ∷ []) label.text) (behind_number wanted number this (octets_of label octets))
      by_test true e = behind_any number
      by_test false e = behind_other number (λ f. not_both number wanted e f)

-- where the numbers are equal, the one or the other tells
number_told : {f : List (List ℕ) → List (List ℕ)} {fit : List (List ℕ) → Bool} {P : Type 0} {this that other others : List Token → List Token → Type 0}
    (wanted number another : List ℕ)
    → Tells f fit (Unit {0}) P this that → Tells f fit (Unit {0}) P other others
    → Tells f fit (number ≡ another) P (behind_number wanted number this other) (behind_number wanted another that others)
number_told {f} {fit} {P} {this} {that} {other} {others} wanted number another s t = record {
  left = record { block = left };
  right = record { block = right };
  tells = tells;
}
  where
    left : (old new : List Token) → behind_number wanted number this other old new → Adds f old new
    left old new (inl (e, h)) = s.left.block old new h
    left old new (inr (n, h)) = t.left.block old new h

    right : (old new : List Token) → behind_number wanted another that others old new → Adds f old new
    right old new (inl (e, h)) = s.right.block old new h
    right old new (inr (n, h)) = t.right.block old new h

    tells : (old before ts us : List Token) → behind_number wanted number this other old (old ++ ts)
        → behind_number wanted another that others before (before ++ us) → number ≡ another
        → (names : List (List ℕ)) (d : ℕ) (rest following : List (List ℕ)) → fit names ≡ true → Follow names d rest → Follow names d following
        → page_lines d ts ++ rest ≡ page_lines d us ++ following → P × (rest ≡ following)
    tells old before ts us (inl (e, a)) (inl (g, b)) known names d rest following is_fit m n same =
        s.tells old before ts us a b tt names d rest following is_fit m n same
    tells old before ts us (inl (e, a)) (inr (n, b)) known names d rest following is_fit m o same = absurd (n (sym known ∙ e))
    tells old before ts us (inr (n, a)) (inl (g, b)) known names d rest following is_fit m o same = absurd (n (known ∙ g))
    tells old before ts us (inr (n, a)) (inr (o, b)) known names d rest following is_fit m p same =
        t.tells old before ts us a b tt names d rest following is_fit m p same

-- ---- each format

leaf_first : (label : Label) (octets : List ℕ) → is_name label.text ≡ true → IsOctets octets
    → Firsts (openings (of_leaf ∷ []) label.text) (octets_of label octets)
leaf_first label octets named small = one_first named (tells_octets.heads label octets named small)

pac_first : (label : Label) (octets : List ℕ) → is_name label.text ≡ true → IsOctets octets
    → Firsts (openings (of_list ∷ of_struct ∷ of_leaf ∷ []) label.text) (pac_of label octets)
pac_first label octets named small = any_opening named (tells_pac.heads label octets named small)

checksum_first : (label : Label) (octets : List ℕ) → is_name label.text ≡ true → IsOctets octets
    → Firsts (openings (of_struct ∷ of_leaf ∷ []) label.text) (gss_checksum_of deleg_of label octets)
checksum_first label octets named small = struct_or_leaf named ((tells_checksums tells_deleg).heads label octets named small)

prefixed_first : (label : Label) (octets : List ℕ) → is_name label.text ≡ true → IsOctets octets
    → Firsts (openings (of_struct ∷ of_leaf ∷ []) label.text) (prefixed_of no_formats label octets)
prefixed_first label octets named small = struct_or_leaf named (tells_prefixed.heads label octets named small)

last_of_three : (n : List ℕ) (old new : List Token) → BeginsAs (openings (of_leaf ∷ []) n) old new
    → BeginsAs (openings (of_list ∷ of_struct ∷ of_leaf ∷ []) n) old new
last_of_three n old new (inl h) = inr (inr (inl h))
last_of_three n old new (inr h) = absurd h

last_of_two : (n : List ℕ) (old new : List Token) → BeginsAs (openings (of_leaf ∷ []) n) old new → BeginsAs (openings (of_struct ∷ of_leaf ∷ []) n) old new
last_of_two n old new (inl h) = inr (inl h)
last_of_two n old new (inr h) = absurd h

first : (role : Role) (number : List ℕ) (label : Label) (octets : List ℕ) → is_name label.text ≡ true → IsOctets octets
    → Firsts (openings (kerberos_kinds role None) label.text) (formats_of role number label octets)
first roles.AuthorizationData number label octets named small =
    behind_any win2k_pac (of_list ∷ of_struct ∷ of_leaf ∷ []) label octets (pac_of label octets) (pac_first label octets named small)
    (leaf_first label octets named small)
    (last_of_three label.text) number
first roles.Checksum number label octets named small =
    behind_any gss_checksum (of_struct ∷ of_leaf ∷ []) label octets (gss_checksum_of deleg_of label octets) (checksum_first label octets named small)
    (leaf_first label octets named small)
    (last_of_two label.text) number
first roles.PrefixedMessage number label octets named small = prefixed_first label octets named small
first role number label octets named small = leaf_first label octets named small

behind : (role : Role) (number : List ℕ) (label : Label) (octets : List ℕ) → is_name label.text ≡ true → IsOctets octets
    → Firsts (openings (kerberos_kinds role (Some number)) label.text) (formats_of role number label octets)
behind roles.AuthorizationData number label octets named small =
    behind_one win2k_pac (of_list ∷ of_struct ∷ of_leaf ∷ []) label octets (pac_of label octets) (pac_first label octets named small)
    (leaf_first label octets named small)
    (last_of_three label.text) number
behind roles.Checksum number label octets named small =
    behind_one gss_checksum (of_struct ∷ of_leaf ∷ []) label octets (gss_checksum_of deleg_of label octets) (checksum_first label octets named small)
    (leaf_first label octets named small)
    (last_of_two label.text) number
behind roles.PrefixedMessage number label octets named small = prefixed_first label octets named small
behind role number label octets named small = leaf_first label octets named small

told : (role : Role) (number another : List ℕ) (label : Label) (octets others : List ℕ) → is_name label.text ≡ true → IsOctets octets → IsOctets others
    → Tells (λ names. label.text ∷ []) (λ names. true) (number ≡ another) (octets ≡ others) (formats_of role number label octets)
    (formats_of role another label others)
told roles.AuthorizationData number another label octets others named small little =
    number_told win2k_pac number another (tells_pac.tells label octets others named small little) (tells_octets.tells label octets others named small little)
told roles.Checksum number another label octets others named small little =
    number_told gss_checksum number another ((tells_checksums tells_deleg).tells label octets others named small little)
    (tells_octets.tells label octets others named small little)
told roles.PrefixedMessage number another label octets others named small little =
    tells_so (λ e. tt) (λ e. e) (tells_prefixed.tells label octets others named small little)
told role number another label octets others named small little = tells_so (λ e. tt) (λ e. e) (tells_octets.tells label octets others named small little)

pub kerberos_formats : FormatsTell kerberos_kinds formats_of
kerberos_formats = record { first = first; behind = behind; told = told }

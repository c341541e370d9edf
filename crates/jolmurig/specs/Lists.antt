-- The list of the input, and why there is none.
use Rattle.std.specs.Prelude.{◌≡◌, ◌⊎◌, ℕ, List, Option, Some, None}
use Rattle.krb_file_tools.specs.declared.list.error.ListError.{ListError}
use Rattle.krb_file_tools.specs.declared.list.error.ListError.TheVariants as errors
use Rattle.krb_show_any.specs.Kinds.{kind_of}
use Rattle.krb_show_any.specs.declared.error.PageError.TheVariants as page
use Rattle.krb_show_any.specs.declared.kind.Kind.{Kind}
use Rattle.krb_show_any.specs.declared.kind.Kind.TheVariants as kind
use Rattle.jolmurig.specs.Calls.{Lists, no_list}
use Rattle.jolmurig.specs.declared.calls.Entries.{Entries}
use Rattle.jolmurig.specs.declared.calls.Entries.TheVariants as entries
use Rattle.jolmurig.specs.declared.failure.Failure.{Failure}
use Rattle.jolmurig.specs.declared.failure.Failure.TheVariants as failure

-- which file of entries octets begin as
abbrev pub entries_of : List ℕ → Option Entries
entries_of octets = of_kind (kind_of octets)
  where
    of_kind : Option Kind → Option Entries
    of_kind (Some kind.Keytab) = Some entries.Keytab
    of_kind (Some kind.Ccache) = Some entries.Ccache
    of_kind other = None

-- the failure that an error of a list is
abbrev pub failure_of_list : ListError → Failure
failure_of_list (errors.Keytab why) = failure.Octets kind.Keytab (page.Keytab why) None
failure_of_list (errors.Ccache why) = failure.Octets kind.Ccache (page.Ccache why) None
failure_of_list errors.OutOfMemory = failure.Memory

-- the list of the octets
abbrev pub IsListed : Lists → List ℕ → List ℕ → Type 0
IsListed lists octets text = (which : Entries) × (entries_of octets ≡ Some which) × lists which octets text

-- they begin as no such file, or have an error
abbrev pub IsUnlisted : List ℕ → Failure → Type 0
IsUnlisted octets e =
    ((e ≡ failure.NoEntries) × (entries_of octets ≡ None))
    ⊎ ((which : Entries) × (why : ListError) × (entries_of octets ≡ Some which) × no_list which octets why × (e ≡ failure_of_list why))

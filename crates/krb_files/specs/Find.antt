-- Which entry of a keytab a program takes.
use Rattle.std.specs.Prelude.{ℕ, Bool, true, ◌&&◌, ◌||◌, ◌==◌, List, [], ◌∷◌, Option, Some, None, nat_lt, if◌then◌else◌}
use Rattle.std.specs.List.{filter}
use Rattle.krb_files.specs.FieldReading.{Principal}
use Rattle.krb_files.specs.Principals.{same_principal}
use Rattle.krb_files.specs.Entry.{Entry}

-- of this encryption type, where one is asked for
abbrev pub has_etype : Option ℕ → Entry → Bool
has_etype None e = true
has_etype (Some etype) e = e.etype == etype

-- of this version, where one is asked for: 0 asks for none
abbrev pub has_kvno : ℕ → Entry → Bool
has_kvno kvno e = (kvno == 0) || (e.kvno == kvno)

abbrev pub is_asked : Principal → Option ℕ → ℕ → Entry → Bool
is_asked principal etype kvno e = same_principal e.principal principal && (has_etype etype e && has_kvno kvno e)

-- the first entry, or the one that is found behind it, if its version is higher
abbrev pub higher : Entry → Option Entry → Option Entry
higher e None = Some e
higher e (Some f) = if nat_lt e.kvno f.kvno then Some f else Some e

-- the entry of the highest version, the first of several of that version
abbrev pub highest : List Entry → Option Entry
highest [] = None
highest (e ∷ es) = higher e (highest es)

-- of the entries that are asked for, the first of those of the highest version
abbrev pub found_entry : Principal → Option ℕ → ℕ → List Entry → Option Entry
found_entry principal etype kvno es = highest (filter (is_asked principal etype kvno) es)

-- the earlier of two entries, or the later one, if its version is higher
abbrev pub better : Option Entry → Option Entry → Option Entry
better None later = later
better (Some e) later = higher e later

-- Files that are read by their names, and why one is not.
use Rattle.std.specs.Prelude.{ℕ, List, Result, Err, codes}
use Rattle.std.specs.declared.io.ErrorKind.{ErrorKind}
use Rattle.std.specs.declared.io.ErrorKind.TheVariants as kinds
use Rattle.jolmurig.specs.declared.files.FileError.{FileError}
use Rattle.jolmurig.specs.declared.files.FileError.TheVariants as errors
use Rattle.jolmurig.specs.declared.files.Purpose.{Purpose}
use Rattle.jolmurig.specs.declared.files.Unread.{Unread}
use Rattle.jolmurig.specs.declared.files.Unread.TheVariants as unread

-- a file that is not read: what it was to be read for, its name, and why
pub record UnreadFile : Type 0 where
  pub purpose : Purpose
  pub name : List ℕ
  pub why : Unread

-- what a file gives, by its name: its octets, or why it is not read
abbrev pub Gives : Type 1
Gives = List ℕ → Result (List ℕ) Unread → Type 0

-- an error of a file that gives this
abbrev pub IsFileError : (Result (List ℕ) Unread → Type 0) → FileError → Type 0
IsFileError gives (errors.Unread why) = gives (Err why)
IsFileError gives errors.OutOfMemory = Unit {0}

-- the error of a file that an error of I/O of this kind is
abbrev pub file_error : ErrorKind → FileError
file_error kinds.OutOfMemory = errors.OutOfMemory
file_error kinds.NotFound = errors.Unread unread.NoFile
file_error kinds.IsADirectory = errors.Unread unread.Directory
file_error kinds.PermissionDenied = errors.Unread unread.Denied
file_error kind = errors.Unread unread.Other

-- why a file is not read
abbrev pub unread_reason : Unread → List ℕ
unread_reason unread.NoFile = codes "no such file"
unread_reason unread.Directory = codes "is a directory"
unread_reason unread.Denied = codes "permission denied"
unread_reason unread.Other = codes "could not be read"

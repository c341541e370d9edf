-- The entry of a buffer (MS-PAC 2.4, PAC_INFO_BUFFER).
use Rattle.std.specs.Prelude.{ℕ}
use Rattle.krb_pac.specs.declared.kind.PacBufferType.{PacBufferType}

-- what the buffer holds, how many octets it has, and how many octets of the PAC are before it
pub record Entry : Type 0 where
  pub ul_type : PacBufferType
  pub cb_buffer_size : ℕ
  pub offset : ℕ

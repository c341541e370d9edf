-- The record of a caller's integrity level and machine (MS-KILE, 2.2.5).
use Rattle.std.specs.Prelude.{◌≡◌, ℕ, ◌<◌, ◌^◌, List, ◌++◌, length}
use Rattle.std.specs.Int.{to_le_bytes, w32}
use Rattle.krb_types.specs.declared.lsap.token.LsapTokenInfoIntegrity.{LsapTokenInfoIntegrity}

-- two numbers of four octets, the lowest first, and the identifier
abbrev pub lsap_token_info : LsapTokenInfoIntegrity → List ℕ
lsap_token_info r = to_le_bytes w32 r.flags ++ (to_le_bytes w32 r.token_il ++ r.machine_id)

-- the numbers fit into four octets, and the identifier has 32
pub record IsTokenInfo (r : LsapTokenInfoIntegrity) : Type 0 where
  pub flags : r.flags < 2 ^ 32
  pub token_il : r.token_il < 2 ^ 32
  pub machine_id : length r.machine_id ≡ 32

-- The contents and the marks of a device.
use Rattle.std.specs.Prelude.{◌≡◌, ◌≢◌, ◌⊎◌, ℕ, Bool, false, true, Option, Some, None, Result, Ok, Err}
use Rattle.std.specs.IoError.{error_kind}
use Rattle.std.specs.declared.io.Error.{Error}
use Rattle.std.specs.declared.io.ErrorKind.TheVariants.{Interrupted}
use Rattle.dgt_lines.specs.declared.streams.Failed.{Failed}
use Rattle.dgt_lines.specs.declared.std_device.Device.{Device}

-- the reader or the writer
abbrev pub device_inner : {T : Type 0} → Device T → T
device_inner device = device.inner

-- a call was refused
abbrev pub device_failed : {T : Type 0} → Device T → Bool
device_failed device = device.failed

-- a read reported the end
abbrev pub device_ended : {T : Type 0} → Device T → Bool
device_ended device = device.ended

-- the reads so far
abbrev pub device_reads : {T : Type 0} → Device T → ℕ
device_reads device = device.reads

-- no byte was written since a flush that succeeded
abbrev pub device_flushed : {T : Type 0} → Device T → Bool
device_flushed device = device.flushed

-- a call came after one that was refused, or a read after the end
abbrev pub device_late : {T : Type 0} → Device T → Bool
device_late device = device.late

-- What becomes of a call of a reader or a writer: its value is returned. If it was interrupted, it
-- is made again, and any other error is a refusal.
abbrev pub IsSettled : {V : Type 0} → Result V Error → Option (Result V Failed) → Type 0
IsSettled (Ok value) settled = settled ≡ Some (Ok value)
IsSettled (Err error) settled =
    ((error_kind error ≡ Interrupted) × (settled ≡ None))
    ⊎ ((error_kind error ≢ Interrupted)
    × (failed : Failed) × (settled ≡ Some (Err failed)))

-- a new device over this reader or writer: nothing was refused, read or written
pub record IsNewDevice {T : Type 0} (device : Device T) (inner : T) : Type 0 where
  pub over : device_inner device ≡ inner
  pub not_failed : device_failed device ≡ false
  pub not_ended : device_ended device ≡ false
  pub unread : device_reads device ≡ 0
  pub flushed : device_flushed device ≡ true
  pub in_time : device_late device ≡ false

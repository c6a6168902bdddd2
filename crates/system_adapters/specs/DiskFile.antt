-- The file that holds a disk.
use Rattle.std.specs.Prelude.{◌≡◌, None}
use Rattle.system_adapters.specs.declared.disk_file.DiskFile.{DiskFile}

-- the file was not opened yet
abbrev pub IsClosed : {R F : Type 0} → DiskFile R F → Type 0
IsClosed d = d.file ≡ None

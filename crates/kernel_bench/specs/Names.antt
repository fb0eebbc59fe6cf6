-- The words of a command.
use Rattle.std.specs.Prelude.{ℕ, List, Option, Some, None, codes, bytes_eq, if◌then◌else◌}
use Rattle.kernel_bench.specs.declared.form.Form.{Form}
use Rattle.kernel_bench.specs.declared.form.Form.TheVariants.{Dense, Sparse, Clustered, Mixed}
use Rattle.kernel_bench.specs.declared.kernel.Kernel.{Kernel}
use Rattle.kernel_bench.specs.declared.kernel.Kernel.TheVariants.{And, Or, Xor, Not, Count, Extended, FromPlaces, Toggled, Make, Build, Window, Select}

-- the form that a name says
abbrev pub form_named : List ℕ → Option Form
form_named name =
    if bytes_eq name (codes "dense") then Some Dense
    else if bytes_eq name (codes "sparse") then Some Sparse
    else if bytes_eq name (codes "clustered") then Some Clustered
    else if bytes_eq name (codes "mixed") then Some Mixed
    else None

-- the kernel that a name says
abbrev pub kernel_named : List ℕ → Option Kernel
kernel_named name =
    if bytes_eq name (codes "and") then Some And
    else if bytes_eq name (codes "or") then Some Or
    else if bytes_eq name (codes "xor") then Some Xor
    else if bytes_eq name (codes "not") then Some Not
    else if bytes_eq name (codes "count") then Some Count
    else if bytes_eq name (codes "extended") then Some Extended
    else if bytes_eq name (codes "from_places") then Some FromPlaces
    else if bytes_eq name (codes "toggled") then Some Toggled
    else if bytes_eq name (codes "make") then Some Make
    else if bytes_eq name (codes "build") then Some Build
    else if bytes_eq name (codes "window") then Some Window
    else if bytes_eq name (codes "select") then Some Select
    else None

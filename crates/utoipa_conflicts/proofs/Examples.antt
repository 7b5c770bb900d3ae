-- The worked examples, by computation.
use Rattle.std.proofs.Common.{◌≡◌, refl}
use Rattle.utoipa_conflicts.specs.Conflicts.{conflicts}
use Rattle.utoipa_conflicts.specs.Examples.{two_services, two_services_drop, three_paths, three_paths_drop, three_components, three_components_drop}

pub services : conflicts two_services ≡ two_services_drop
services = refl

pub paths : conflicts three_paths ≡ three_paths_drop
paths = refl

pub components : conflicts three_components ≡ three_components_drop
components = refl

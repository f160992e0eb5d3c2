-- The names that the clauses of other crates cite, passed on from one place. Declares nothing.
pub use Rattle.disk_gen.specs.PeriodicList.{periodic_list}
pub use Rattle.disk_gen.specs.Plans.{HasPeriodicPlan}
pub use Rattle.disk_gen.specs.DiskPlans.{HasDiskPlan}
pub use Rattle.disk_gen.specs.DiskRows.{AreDiskFor, AreGreatestDiskFor, AreDiskSized, DiskRows, disk_tables_in}
pub use Rattle.disk_gen.specs.DiskRevolveList.{IsDiskWritten}

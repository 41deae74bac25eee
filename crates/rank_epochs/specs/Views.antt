-- The epochs that the code's own enums stand for.
use Rattle.rank_epochs.specs.declared.access.AccessEpoch.{AccessEpoch as Access}
use Rattle.rank_epochs.specs.declared.access.AccessEpoch.TheVariants as access
use Rattle.rank_epochs.specs.declared.exposure.ExposureEpoch.{ExposureEpoch as Exposure}
use Rattle.rank_epochs.specs.declared.exposure.ExposureEpoch.TheVariants as exposure
use Rattle.rank_rules.specs.Epochs.{AccessEpoch, Idle, FenceUnused, FenceUsed, StartTo, LocksAt, LockAll, ExposureEpoch}
use Rattle.rank_rules.specs.Epochs.{Unexposed, PostTo}

abbrev pub access_of : Access → AccessEpoch
access_of access.Idle = Idle
access_of access.FenceUnused = FenceUnused
access_of access.FenceUsed = FenceUsed
access_of (access.StartTo group) = StartTo group.items
access_of (access.LocksAt targets) = LocksAt targets.items
access_of access.LockAll = LockAll

abbrev pub exposure_of : Exposure → ExposureEpoch
exposure_of exposure.Unexposed = Unexposed
exposure_of (exposure.PostTo group) = PostTo group.items
